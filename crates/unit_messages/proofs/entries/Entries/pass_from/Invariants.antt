use Rattle.std.proofs.Common.{◌≡◌, ◌≤◌, ◌-◌, false}
use Rattle.std.specs.Prelude.{IfSome}
use Rattle.std.specs.List.{range_with_len}
use Rattle.card_layout.specs.Fields.{joined}
use Rattle.unit_minutes.specs.Reading.{ReadsIfAny}
use Rattle.unit_messages.specs.Windows.{passed}
use Rattle.unit_messages.specs.Chosen.{chosen_at, shape_of}
use Rattle.unit_messages.proofs.entries.Entries.pass_from.Given as goal

abbrev pub invariant-loop-index : goal.invariant-loop-index
invariant-loop-index g l =
    let before = g.M.Medium.state l.initial.unit in
    let now = g.M.Medium.state l.unit in
    record {
      low : l.from ≤ l.index;
      high : l.index ≤ l.to;
      passed : IfSome before.image (λ x. l.window ≡ passed l.initial.window (joined (chosen_at (shape_of l.self) l.self.choice x (range_with_len l.from (l.index - l.from)))));
      reads : ReadsIfAny before now false;
    }

abbrev pub decreases-loop-index : goal.decreases-loop-index
decreases-loop-index g l = l.to - l.index
