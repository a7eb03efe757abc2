use Rattle.std.proofs.Common.{◌≤◌, ◌-◌, false}
use Rattle.std.specs.Prelude.{IfSome}
use Rattle.std.specs.List.{range_with_len}
use Rattle.unit_minutes.specs.Reading.{ReadsIfAny}
use Rattle.unit_messages.specs.Counts.{AreFew, CountsEach}
use Rattle.unit_messages.proofs.outline.counts.count_each.Given as goal

abbrev pub invariant-loop-index : goal.invariant-loop-index
invariant-loop-index g l =
    let before = g.M.Medium.state l.initial.unit in
    let now = g.M.Medium.state l.unit in
    record {
      high : l.index ≤ l.all;
      few : AreFew l.index l.counts;
      counted : IfSome before.image (λ x. CountsEach l.kind l.first x (range_with_len 0 l.index) l.counts);
      reads : ReadsIfAny before now false;
    }

abbrev pub decreases-loop-index : goal.decreases-loop-index
decreases-loop-index g l = l.all - l.index
