use Rattle.std.proofs.Common.{ℕ, ◌*◌, ◌<◌}
use Rattle.tach_media.specs.Medium.{bytes_at}
use Rattle.card_files.specs.Noting.{IsEvent}
use Rattle.card_files.proofs.event_set.holds.Given as goal

-- none of those so far is the event
abbrev pub invariant-loop-index : goal.invariant-loop-index
invariant-loop-index l = (i : ℕ) → i < l.index → IsEvent l.kind l.begin.0 (bytes_at l.set (24 * i) 24) → ⊥
