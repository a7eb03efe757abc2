use Rattle.std.proofs.Common.{◌-◌, ◌^◌, ◌≤◌}
use Rattle.unit_download.proofs.Talking.{IsUnderway}
use Rattle.unit_download.proofs.loading.exchange_all.Given as goal

-- exchanges have passed
abbrev pub invariant-loop-sent : goal.invariant-loop-sent
invariant-loop-sent g l =
    IsUnderway (g.T.Tape.frames l.wire) l.loader l.session (g.U.Medium.state l.fn.unit) (g.U.Medium.state l.unit) (g.K.Sink.held l.fn.sink) (g.K.Sink.held l.sink)
    × (g.K.Sink.faults l.fn.sink ≤ g.K.Sink.faults l.sink)

-- each adds to the tape
abbrev pub decreases-loop-sent : goal.decreases-loop-sent
decreases-loop-sent g l = 2 ^ 64 - g.T.Tape.count l.wire
