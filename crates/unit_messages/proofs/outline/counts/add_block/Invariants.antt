use Rattle.std.proofs.Common.{◌≡◌, ◌+◌, ◌*◌, ℕ, List, length}
use Rattle.std.specs.List.{range_with_len}
use Rattle.card_layout.specs.Images.{bytes_at}
use Rattle.unit_messages.specs.Counts.{entries_on, AreFew, CountsEach}
use Rattle.unit_messages.proofs.outline.counts.add_block.Given as goal

abbrev pub invariant-loop-turn : goal.invariant-loop-turn
invariant-loop-turn l = record {
  whole : length l.counts ≡ 366;
  few : (n : ℕ) → AreFew n l.initial.counts → AreFew (n + l.turn) l.counts;
  added : (x : List ℕ) (index : ℕ) → l.block ≡ bytes_at x ((entries_on l.kind 0).base + index * (entries_on l.kind 0).width) (l.count * (entries_on l.kind 0).width)
      → CountsEach l.kind l.first x (range_with_len 0 index) l.initial.counts → CountsEach l.kind l.first x (range_with_len 0 (index + l.turn)) l.counts;
}
