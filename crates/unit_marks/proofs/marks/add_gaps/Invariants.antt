use Rattle.std.proofs.Common.{◌≡◌, ◌++◌, take}
use Rattle.message_model.specs.Messages.{EventMessage, AnEventList}
use Rattle.unit_messages.specs.Reading.{BeginsWith}
use Rattle.unit_marks.specs.Marks.{gaps_of}
use Rattle.unit_marks.proofs.marks.add_gaps.Given as goal

-- the gaps of the events so far
abbrev pub invariant-loop-i : goal.invariant-loop-i
invariant-loop-i l = (m : EventMessage) → BeginsWith (AnEventList m) l.message → l.gaps.items ≡ l.initial.gaps.items ++ gaps_of (take l.i m.events)
