use Rattle.std.proofs.Common.{◌≡◌, ℕ, ◌+◌, ◌≤◌, List, ◌++◌, length}
use Rattle.trace_text.specs.Text.{text_lines}
use Rattle.trace_text.specs.Reading.{HasRead}
use Rattle.trace_text.proofs.read.trace_of.Given as goal

abbrev pub invariant-loop-rest : goal.invariant-loop-rest
invariant-loop-rest l = record {
  lines : (before : List (List ℕ)) × (text_lines l.text ≡ before ++ text_lines l.rest) × HasRead before l.reading;
  few : l.reading.coming.lines + length l.rest ≤ length l.text;
  form : l.reading.coming.form ≡ l.fn.form;
}

abbrev pub decreases-loop-rest : goal.decreases-loop-rest
decreases-loop-rest l = length l.rest
