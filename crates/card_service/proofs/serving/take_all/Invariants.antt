use Rattle.std.proofs.Common.{◌≡◌, ◌≤◌, ◌++◌, ℕ, List, Option, take, true}
use Rattle.card_service.specs.Packets.{IsPart}
use Rattle.card_service.specs.Answering.{Card, card_told}
use Rattle.card_service.specs.Serving.{IsServing, Leaves}
use Rattle.tach_media.specs.Medium.{LeavesOnly}
use Rattle.card_service.proofs.serving.take_all.Given as goal

-- what had come and these bytes were answered
abbrev pub invariant-loop-byte : goal.invariant-loop-byte
invariant-loop-byte g l = record {
  goes : (begun : Card) (held : Option (List ℕ)) (came : List ℕ) → IsServing begun came l.fn.gathering (card_told (g.C.Chip.state l.fn.chip) (g.C.Chip.card l.fn.chip)) held (g.K.Sink.held l.fn.sink)
      → IsServing begun (came ++ take l.byte-index l.bytes) l.gathering (card_told (g.C.Chip.state l.chip) (g.C.Chip.card l.chip)) held (g.K.Sink.held l.sink);
  moments : (begun : Card) (held : Option (List ℕ)) (came : List ℕ) → IsServing begun came l.fn.gathering (card_told (g.C.Chip.state l.fn.chip) (g.C.Chip.card l.fn.chip)) held (g.K.Sink.held l.fn.sink)
      → LeavesOnly (g.C.Chip.state l.fn.chip) (g.C.Chip.state l.chip) (λ x c. Leaves begun (came ++ take l.byte-index l.bytes) c);
  works : (g.C.Chip.state l.chip).works ≡ true;
  part : IsPart l.gathering;
  counts : g.K.Sink.faults l.fn.sink ≤ g.K.Sink.faults l.sink;
  failed : (g.C.Chip.state l.fn.chip).faults ≤ (g.C.Chip.state l.chip).faults;
}
