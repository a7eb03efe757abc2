use Rattle.std.proofs.Common.{take}
use Rattle.card_match.specs.Text.{AreRunsText}
use Rattle.card_match.proofs.text.runs_text.Given as goal

-- the runs so far
abbrev pub invariant-loop-run : goal.invariant-loop-run
invariant-loop-run l = AreRunsText (take l.run-index l.runs) l.text.items
