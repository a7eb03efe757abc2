use Rattle.std.proofs.Common.{◌≡◌, ◌≤◌, true}
use Rattle.card_service.specs.Answering.{Card}
use Rattle.card_service.proofs.Turning.{IsTurning}
use Rattle.card_service.proofs.serving.serve_card.Given as goal

-- the packets so far were answered, and those before each read in time
abbrev pub invariant-loop-turn : goal.invariant-loop-turn
invariant-loop-turn g l = record {
  begun : Card;
  turning : IsTurning l._turn (record { chip = g.C.Chip.state l.fn.chip; card = g.C.Chip.card l.fn.chip }) begun l.gathering (g.C.Chip.state l.chip) (g.C.Chip.card l.chip)
      (record { left = g.S.Source.left l.fn.source; held = g.K.Sink.held l.fn.sink; asked = g.S.Peer.asked l.fn.source })
      (record { left = g.S.Source.left l.source; held = g.K.Sink.held l.sink; asked = g.S.Peer.asked l.source });
  works : (g.C.Chip.state l.chip).works ≡ true;
  given : g.S.Source.faults l.fn.source ≤ g.S.Source.faults l.source;
  taken : g.K.Sink.faults l.fn.sink ≤ g.K.Sink.faults l.sink;
  failed : (g.C.Chip.state l.fn.chip).faults ≤ (g.C.Chip.state l.chip).faults;
}
