use Rattle.std.proofs.Common.{◌≤◌}
use Rattle.packet_service.proofs.LoadTurning.{IsLoadTurning}
use Rattle.packet_service.proofs.loading.download_packets.Given as goal

-- the packets so far were taken, and before each read what is sent behind them was sent
abbrev pub invariant-loop-turn : goal.invariant-loop-turn
invariant-loop-turn g l = record {
  turning : IsLoadTurning l._turn (g.S.Source.left l.fn.source) (g.S.Source.left l.source) l.line (record { link = g.K.Sink.held l.fn.link; file = g.F.Sink.held l.fn.file }) (record { link = g.K.Sink.held l.link; file = g.F.Sink.held l.file })
      (g.S.Peer.asked l.fn.source) (g.S.Peer.asked l.source);
  given : g.S.Source.faults l.fn.source ≤ g.S.Source.faults l.source;
  linked : g.K.Sink.faults l.fn.link ≤ g.K.Sink.faults l.link;
  filed : g.F.Sink.faults l.fn.file ≤ g.F.Sink.faults l.file;
}
