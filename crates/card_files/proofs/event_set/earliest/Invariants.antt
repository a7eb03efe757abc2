use Rattle.std.proofs.Common.{◌≡◌, ◌+◌, ◌*◌}
use Rattle.gated_ring.specs.Ring.{number_at}
use Rattle.gated_ring.specs.Earliest.{IsEarliest}
use Rattle.card_files.proofs.event_set.earliest.Given as goal

abbrev pub invariant-loop-index : goal.invariant-loop-index
invariant-loop-index l = record {
  found : IsEarliest l.index (λ j. number_at l.set (24 * j + 1) 4) l.found;
  least : l.least ≡ number_at l.set (24 * l.found + 1) 4;
}
