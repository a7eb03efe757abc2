use Rattle.std.proofs.Common.{◌+◌, ◌≤◌, ◌++◌, length}
use Rattle.text_fields.specs.Pieces.{pieces, pieces_behind}
use Rattle.link_session.proofs.Taking.{IsTaking, size_behind}
use Rattle.link_session.proofs.lines.Lines.take.Given as goal

-- the lines up to what is behind were heard, and each has its end in the text
abbrev pub invariant-loop-behind : goal.invariant-loop-behind
invariant-loop-behind g l =
    IsTaking (pieces 10 (l.fn.self.text.items ++ l.text)) (pieces_behind 10 l.behind) l.fn.self l.self (g.U.Medium.state l.fn.unit) (g.U.Medium.state l.unit) (g.K.Sink.held l.fn.sink) (g.K.Sink.held l.sink)
    × (g.K.Sink.faults l.fn.sink ≤ g.K.Sink.faults l.sink) × (l.self.whole + size_behind l.behind ≤ l.fn.self.whole + length l.text)

abbrev pub decreases-loop-behind : goal.decreases-loop-behind
decreases-loop-behind g l = size_behind l.behind
