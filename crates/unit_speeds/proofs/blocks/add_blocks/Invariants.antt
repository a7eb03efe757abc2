use Rattle.std.proofs.Common.{◌≡◌, ◌++◌, map, take}
use Rattle.message_model.specs.Messages.{SpeedMessage, ASpeedList}
use Rattle.unit_messages.specs.Reading.{BeginsWith}
use Rattle.unit_speeds.specs.Speeds.{line_of}
use Rattle.unit_speeds.proofs.blocks.add_blocks.Given as goal

-- the lines of the blocks so far
abbrev pub invariant-loop-i : goal.invariant-loop-i
invariant-loop-i l = (m : SpeedMessage) → BeginsWith (ASpeedList m) l.message → l.lines.items ≡ l.initial.lines.items ++ map line_of (take l.i m.blocks)
