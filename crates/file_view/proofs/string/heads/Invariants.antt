use Rattle.std.proofs.Common.{◌<◌, ◌-◌, length}
use Rattle.std.specs.Prelude.{IfSome}
use Rattle.card_model.specs.Walk.{days_of}
use Rattle.card_days.specs.Heads.{heads_of, IsAfter}
use Rattle.file_view.proofs.Walks.{Walked}
use Rattle.file_view.proofs.string.heads.Given as goal

-- the heads so far, and the walk goes on with the rest
abbrev pub invariant-loop-next : goal.invariant-loop-next
invariant-loop-next l = record {
  place : IfSome l.next (λ h. h.place < l.string.shape.size);
  walked : Walked (IsAfter l.string.shape l.file) l.heads.items (heads_of l.string.shape l.file (days_of l.string.shape l.file)) l.next;
}

abbrev pub decreases-loop-next : goal.decreases-loop-next
decreases-loop-next l = length (heads_of l.string.shape l.file (days_of l.string.shape l.file)) - length l.heads.items
