use Rattle.std.proofs.Common.{◌∙◌, sym, ap, subst}
use Rattle.unit_messages.specs.Outlines.{IsInRange, length_of}
use Rattle.unit_messages.proofs.outline.Outline.total.Goals as goal

pub speed_total-requires : goal.speed_total-requires
speed_total-requires c = subst IsInRange c.in-Speed.is c.self.invariant

pub returns-in-Speed-clause-len : goal.returns-in-Speed-clause-len
returns-in-Speed-clause-len c = c.speed_total.ensures.len ∙ ap length_of (sym c.in-Speed.is ∙ c.self.view_is)

pub day_total-requires : goal.day_total-requires
day_total-requires c = subst IsInRange c.in-Day.is c.self.invariant

pub event_total-requires : goal.event_total-requires
event_total-requires c = subst IsInRange c.in-Events.is c.self.invariant

pub returns-in-Overview-clause-len : goal.returns-in-Overview-clause-len
returns-in-Overview-clause-len c = ap length_of (sym c.in-Overview.is ∙ c.self.view_is)

pub returns-in-Day-clause-len : goal.returns-in-Day-clause-len
returns-in-Day-clause-len c = c.day_total.ensures.len ∙ ap length_of (sym c.in-Day.is ∙ c.self.view_is)

pub returns-in-Events-clause-len : goal.returns-in-Events-clause-len
returns-in-Events-clause-len c = c.event_total.ensures.len ∙ ap length_of (sym c.in-Events.is ∙ c.self.view_is)

pub returns-in-Technical-clause-len : goal.returns-in-Technical-clause-len
returns-in-Technical-clause-len c = ap length_of (sym c.in-Technical.is ∙ c.self.view_is)
