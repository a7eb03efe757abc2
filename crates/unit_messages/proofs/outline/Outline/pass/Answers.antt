use Rattle.std.proofs.Common.{◌≡◌, ◌∙◌, sym, subst, IfSome}
use Rattle.std.specs.Prelude.{OnOk}
use Rattle.unit_messages.specs.declared.outline.Plan.{Plan}
use Rattle.unit_messages.specs.declared.outline.Plan.TheVariants.{Overview, Day, Events, Speed, Technical}
use Rattle.unit_messages.specs.Outlines.{Outlines, HasPassed, IsInRange}
use Rattle.unit_memory.proofs.Told.{one_told}
use Rattle.std.proofs.lemmas.Result.{on_ok_weaker}
use Rattle.unit_messages.proofs.outline.Outline.pass.Goals as goal

pub returns-in-Overview-clause-passed : goal.returns-in-Overview-clause-passed
returns-in-Overview-clause-passed g c =
    let is : Overview c.in-Overview.times ≡ c.args.self.now = sym c.in-Overview.is ∙ c.self.view_is in
    subst (λ (o : Plan). OnOk c.pass_overview.result (IfSome (g.M.Medium.state c.args.unit.now).image (λ x. Outlines o x → HasPassed o x c.args.window.now c.pass_overview.new.window))) is c.pass_overview.ensures.passed

pub returns-in-Day-clause-passed : goal.returns-in-Day-clause-passed
returns-in-Day-clause-passed g c =
    let is : Day c.in-Day.day ≡ c.args.self.now = sym c.in-Day.is ∙ c.self.view_is in
    subst (λ (o : Plan). OnOk c.pass_day.result (IfSome (g.M.Medium.state c.args.unit.now).image (λ x. Outlines o x → HasPassed o x c.args.window.now c.pass_day.new.window))) is c.pass_day.ensures.passed

pub returns-in-Events-clause-passed : goal.returns-in-Events-clause-passed
returns-in-Events-clause-passed g c =
    let is : Events c.in-Events.events ≡ c.args.self.now = sym c.in-Events.is ∙ c.self.view_is in
    subst (λ (o : Plan). OnOk c.pass_events.result (IfSome (g.M.Medium.state c.args.unit.now).image (λ x. Outlines o x → HasPassed o x c.args.window.now c.pass_events.new.window))) is c.pass_events.ensures.passed

pub returns-in-Speed-clause-passed : goal.returns-in-Speed-clause-passed
returns-in-Speed-clause-passed g c =
    let is : Speed c.in-Speed.blocks ≡ c.args.self.now = sym c.in-Speed.is ∙ c.self.view_is in
    subst (λ (o : Plan). OnOk c.pass_speed.result (IfSome (g.M.Medium.state c.args.unit.now).image (λ x. Outlines o x → HasPassed o x c.args.window.now c.pass_speed.new.window))) is c.pass_speed.ensures.passed

pub pass_speed-requires-clause-range : goal.pass_speed-requires-clause-range
pass_speed-requires-clause-range g c = subst IsInRange c.in-Speed.is c.self.invariant

pub returns-in-Technical-clause-passed : goal.returns-in-Technical-clause-passed
returns-in-Technical-clause-passed g c =
    let is : Technical ≡ c.args.self.now = sym c.in-Technical.is ∙ c.self.view_is in
    subst (λ (o : Plan). OnOk c.pass_technical.result (IfSome (g.M.Medium.state c.args.unit.now).image (λ x. Outlines o x → HasPassed o x c.args.window.now c.pass_technical.new.window))) is
    (on_ok_weaker c.pass_technical.result (λ it. one_told (g.M.Medium.state c.args.unit.now).image (λ x. Outlines Technical x → HasPassed Technical x c.args.window.now c.pass_technical.new.window) it (λ x has none. has)) c.pass_technical.ensures.passed)

pub pass_day-requires-clause-range : goal.pass_day-requires-clause-range
pass_day-requires-clause-range g c = subst IsInRange c.in-Day.is c.self.invariant

pub pass_events-requires-clause-range : goal.pass_events-requires-clause-range
pass_events-requires-clause-range g c = subst IsInRange c.in-Events.is c.self.invariant
