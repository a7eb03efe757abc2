use Rattle.std.proofs.Common.{◌∙◌, sym, subst}
use Rattle.unit_messages.specs.declared.outline.Plan.{Plan}
use Rattle.unit_messages.specs.Outlines.{IsInRange, Outlines}
use Rattle.unit_messages.proofs.outline.Outline.counts.Goals as goal

pub returns-in-Day-clause-range : goal.returns-in-Day-clause-range
returns-in-Day-clause-range c = (subst IsInRange c.in-Day.is c.self.invariant).counts

pub returns-in-Day-clause-counted : goal.returns-in-Day-clause-counted
returns-in-Day-clause-counted c = λ x known. (subst (λ (o : Plan). Outlines o x) (sym c.self.view_is ∙ c.in-Day.is) known).counted
