use Rattle.std.proofs.Common.{◌-◌, ◌≤◌, length}
use Rattle.link_session.proofs.Answering.{IsAnswering}
use Rattle.link_session.proofs.line.Line.answer.Given as goal

-- the bytes so far were taken, and what was heard in them was answered
abbrev pub invariant-loop-done : goal.invariant-loop-done
invariant-loop-done g l =
    IsAnswering l.spelling l.bytes l.done l.initial.self l.self (g.U.Medium.state l.initial.unit) (g.U.Medium.state l.unit) (g.K.Sink.held l.initial.sink) (g.K.Sink.held l.sink)
    × (g.K.Sink.faults l.initial.sink ≤ g.K.Sink.faults l.sink)

abbrev pub decreases-loop-done : goal.decreases-loop-done
decreases-loop-done g l = length l.bytes - l.done
