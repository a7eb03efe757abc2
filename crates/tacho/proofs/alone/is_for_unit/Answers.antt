use Rattle.std.proofs.Common.{sym, subst, ◌∙◌}
use Rattle.run_outcome.proofs.Items.{left-here}
use Rattle.tacho.specs.Alone.{IsForUnit}
use Rattle.tacho.proofs.alone.is_for_unit.Goals as goal

pub loop-i-preserved : goal.loop-i-preserved
loop-i-preserved c = λ all. c.loop-i.invariant (subst IsForUnit (sym (left-here c.args.items.now c.loop-i.i c.get.result.now c.get.ensures)) (sym c.needs_no_card.ensures ∙ c.if-not-needs_no_card.false, all))
