use Rattle.std.proofs.Common.{◌≡◌, IfSome, sym, subst}
use Rattle.std.specs.Prelude.{IfOk}
use Rattle.link_model.specs.declared.request.Request.{Request}
use Rattle.unit_memory.proofs.Told.{told_all}
use Rattle.unit_messages.specs.Outlines.{IsOutlined, asked}
use Rattle.unit_messages.proofs.Calls.{no_call}
use Rattle.unit_messages.proofs.outline.finding.find_next_outline.Goals as goal

pub returns-in-Overview-clause-outlined : goal.returns-in-Overview-clause-outlined
returns-in-Overview-clause-outlined g c =
    subst (λ (q : Request). IfOk c.overview_outline.result (λ found. IfSome (g.M.Medium.state c.args.unit.now).image (λ x. IsOutlined x q found))) (sym c.in-Overview.is) c.overview_outline.ensures.outlined

pub returns-in-Overview-clause-request : goal.returns-in-Overview-clause-request
returns-in-Overview-clause-request g c = subst (λ (q : Request). IfOk c.overview_outline.result (λ found. IfSome found (λ o. asked o ≡ q))) (sym c.in-Overview.is) c.overview_outline.ensures.request

pub returns-in-Day-clause-outlined : goal.returns-in-Day-clause-outlined
returns-in-Day-clause-outlined g c =
    subst (λ (q : Request). IfOk c.dated_outline.result (λ found. IfSome (g.M.Medium.state c.args.unit.now).image (λ x. IsOutlined x q found))) (sym c.in-Day.is) c.dated_outline.ensures.outlined

pub returns-in-Day-clause-request : goal.returns-in-Day-clause-request
returns-in-Day-clause-request g c = subst (λ (q : Request). IfOk c.dated_outline.result (λ found. IfSome found (λ o. asked o ≡ q))) (sym c.in-Day.is) c.dated_outline.ensures.request

pub returns-in-Events-clause-outlined : goal.returns-in-Events-clause-outlined
returns-in-Events-clause-outlined g c =
    subst (λ (q : Request). IfOk c.events_outline.result (λ found. IfSome (g.M.Medium.state c.args.unit.now).image (λ x. IsOutlined x q found))) (sym c.in-Events.is) c.events_outline.ensures.outlined

pub returns-in-Events-clause-request : goal.returns-in-Events-clause-request
returns-in-Events-clause-request g c = subst (λ (q : Request). IfOk c.events_outline.result (λ found. IfSome found (λ o. asked o ≡ q))) (sym c.in-Events.is) c.events_outline.ensures.request

pub returns-in-Speed-clause-outlined : goal.returns-in-Speed-clause-outlined
returns-in-Speed-clause-outlined g c =
    subst (λ (q : Request). IfOk c.speed_outline.result (λ found. IfSome (g.M.Medium.state c.args.unit.now).image (λ x. IsOutlined x q found))) (sym c.in-Speed.is) c.speed_outline.ensures.outlined

pub returns-in-Speed-clause-request : goal.returns-in-Speed-clause-request
returns-in-Speed-clause-request g c = subst (λ (q : Request). IfOk c.speed_outline.result (λ found. IfSome found (λ o. asked o ≡ q))) (sym c.in-Speed.is) c.speed_outline.ensures.request

pub returns-in-Technical-clause-outlined : goal.returns-in-Technical-clause-outlined
returns-in-Technical-clause-outlined g c = told_all (g.M.Medium.state c.args.unit.now).image _ (λ x told. (sym c.in-Technical.is, tt))

pub returns-in-Technical-clause-reads : goal.returns-in-Technical-clause-reads
returns-in-Technical-clause-reads g c = no_call (g.M.Medium.state c.args.unit.now)
