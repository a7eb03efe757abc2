use Rattle.std.proofs.Common.{◌≤◌}
use Rattle.packet_service.proofs.Turning.{IsTurning}
use Rattle.packet_service.proofs.serving.serve_packets.Given as goal

-- the packets so far were answered, and those before each read in time
abbrev pub invariant-loop-turn : goal.invariant-loop-turn
invariant-loop-turn g l = record {
  turning : IsTurning l._turn (g.U.Medium.state l.fn.unit).image (g.S.Source.left l.fn.source) (g.S.Source.left l.source) l.line (g.K.Sink.held l.fn.sink) (g.K.Sink.held l.sink)
      (g.S.Peer.asked l.fn.source) (g.S.Peer.asked l.source) (g.U.Medium.state l.fn.unit) (g.U.Medium.state l.unit);
  given : g.S.Source.faults l.fn.source ≤ g.S.Source.faults l.source;
  taken : g.K.Sink.faults l.fn.sink ≤ g.K.Sink.faults l.sink;
}
