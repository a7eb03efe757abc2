use Rattle.std.proofs.Common.{◌≤◌}
use Rattle.link_session.proofs.Asked.{IsTimely}
use Rattle.link_session.proofs.Serving.{IsServing, Answered}
use Rattle.link_session.proofs.service.serve.Given as goal

-- the bytes so far were answered, and those before each read in time
abbrev pub invariant-loop-turn : goal.invariant-loop-turn
invariant-loop-turn g l =
    ((s : IsServing l._turn l.left (g.S.Source.left l.initial.source) (g.S.Source.left l.source) l.line
    (g.U.Medium.state l.initial.unit) (g.U.Medium.state l.unit) (g.K.Sink.held l.initial.sink) (g.K.Sink.held l.sink))
    × IsTimely Answered s.came (g.U.Medium.state l.initial.unit).image (g.K.Sink.held l.initial.sink) (g.S.Peer.asked l.initial.source) (g.S.Peer.asked l.source))
    × (g.S.Source.faults l.initial.source ≤ g.S.Source.faults l.source) × (g.K.Sink.faults l.initial.sink ≤ g.K.Sink.faults l.sink)
