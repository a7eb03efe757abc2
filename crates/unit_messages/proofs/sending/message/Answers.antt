use Rattle.std.proofs.Common.{◌≡◌, ◌∙◌, Option, Some, None, IfSome, ap, sym, subst, refl, inl}
use Rattle.std.specs.Prelude.{option_map}
use Rattle.std.proofs.lemmas.Result.{IfOk-weaker}
use Rattle.unit_model.specs.Decoding.{Decodes}
use Rattle.unit_memory.proofs.Told.{one_told, carried}
use Rattle.unit_minutes.proofs.IfAny.{read_same}
use Rattle.unit_minutes.specs.Image.{IsFoundBy}
use Rattle.unit_minutes.specs.Reading.{AreRight}
use Rattle.link_model.specs.declared.request.Request.{Request}
use Rattle.message_model.specs.Messages.{message_bytes}
use Rattle.unit_messages.specs.declared.outline.Plan.{Plan}
use Rattle.unit_messages.specs.Outlines.{Outlines, IsOutlined, asked, bytes_sent}
use Rattle.unit_messages.proofs.Calls.{any_then, reads_any}
use Rattle.unit_messages.proofs.Faulting.{ok_always, never_bad_message}
use Rattle.unit_messages.proofs.sending.message.Goals as goal

pub find_outline-requires-clause-right : goal.find_outline-requires-clause-right
find_outline-requires-clause-right g c =
    one_told (g.M.Medium.state c.load.new.unit).image (AreRight c.in_ok-journal.journal) (carried (IsFoundBy c.in_ok-journal.journal) (sym (c.in_ok-journal.ensures.reads.same refl)) c.in_ok-journal.ensures.found) (λ x found. inl found)

pub find_outline-requires-clause-decodes : goal.find_outline-requires-clause-decodes
find_outline-requires-clause-decodes g c = carried Decodes (sym (c.in_ok-journal.ensures.reads.same refl)) c.in_ok-journal.ensures.decodes

pub whole-requires-clause-outlines : goal.whole-requires-clause-outlines
whole-requires-clause-outlines g c =
    one_told (g.M.Medium.state c.find_outline.new.unit).image (Outlines c.in-Some.outline)
    (carried (λ x. IsOutlined x c.args.request.now (Some c.in-Some.outline)) (sym (read_same c.in_ok-found.ensures.reads))
    (subst (λ (f : Option Plan). IfSome (g.M.Medium.state c.load.new.unit).image (λ x. IsOutlined x c.args.request.now f)) c.in-Some.is c.in_ok-found.ensures.outlined)) (λ x both. both.1)

pub returns-in-None-clause-message : goal.returns-in-None-clause-message
returns-in-None-clause-message g c =
    one_told (g.M.Medium.state c.args.unit.now).image _ (carried (λ x. IsOutlined x c.args.request.now None) (c.in_ok-journal.ensures.reads.same refl)
    (subst (λ (f : Option Plan). IfSome (g.M.Medium.state c.load.new.unit).image (λ x. IsOutlined x c.args.request.now f)) c.in-None.is c.in_ok-found.ensures.outlined)) (λ x none. sym (ap (option_map message_bytes) none))

pub returns-in-None-clause-reads : goal.returns-in-None-clause-reads
returns-in-None-clause-reads g c = reads_any c.in_ok-journal.ensures.reads c.in_ok-found.ensures.reads

pub returns-in-Some-clause-message : goal.returns-in-Some-clause-message
returns-in-Some-clause-message g c =
    let before = (g.M.Medium.state c.args.unit.now).image in
    let after = (g.M.Medium.state c.find_outline.new.unit).image in
    let request : asked c.in-Some.outline ≡ c.args.request.now = subst (λ (f : Option Plan). IfSome f (λ o. asked o ≡ c.args.request.now)) c.in-Some.is c.in_ok-found.ensures.request in
    let same : after ≡ before = read_same c.in_ok-found.ensures.reads ∙ c.in_ok-journal.ensures.reads.same refl in
    IfOk-weaker c.whole.result (λ found. IfSome after (λ x. option_map (λ v. v.items) found ≡ bytes_sent x (asked c.in-Some.outline))) (λ found. IfSome before (λ x. option_map (λ v. v.items) found ≡ bytes_sent x c.args.request.now))
    (λ found it. carried (λ x. option_map (λ v. v.items) found ≡ bytes_sent x c.args.request.now) same (subst (λ (q : Request). IfSome after (λ x. option_map (λ v. v.items) found ≡ bytes_sent x q)) request it)) c.whole.ensures.message

pub returns-in-Some-clause-decodes : goal.returns-in-Some-clause-decodes
returns-in-Some-clause-decodes g c = ok_always c.whole.result c.in_ok-journal.ensures.decodes

pub returns-in-Some-clause-bad : goal.returns-in-Some-clause-bad
returns-in-Some-clause-bad g c = never_bad_message c.whole.result _ c.whole.ensures.failed

pub returns-in-Some-clause-reads : goal.returns-in-Some-clause-reads
returns-in-Some-clause-reads g c = reads_any c.in_ok-journal.ensures.reads (any_then c.in_ok-found.ensures.reads c.whole.ensures.reads)
