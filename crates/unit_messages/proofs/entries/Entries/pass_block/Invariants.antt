use Rattle.std.proofs.Common.{◌≡◌, ◌+◌, ◌*◌, ℕ, List}
use Rattle.std.specs.List.{range_with_len}
use Rattle.card_layout.specs.Images.{bytes_at}
use Rattle.card_layout.specs.Fields.{joined}
use Rattle.unit_messages.specs.Windows.{passed}
use Rattle.unit_messages.specs.Chosen.{chosen_at, shape_of}
use Rattle.unit_messages.proofs.entries.Entries.pass_block.Given as goal

-- the entries so far have passed
abbrev pub invariant-loop-turn : goal.invariant-loop-turn
invariant-loop-turn l =
    (x : List ℕ) (index : ℕ) → l.block ≡ bytes_at x (l.self.base + index * l.self.width) (l.count * l.self.width)
    → l.window ≡ passed l.initial.window (joined (chosen_at (shape_of l.self) l.self.choice x (range_with_len index l.turn)))
