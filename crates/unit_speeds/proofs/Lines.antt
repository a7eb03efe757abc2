-- The text of lines and of one more, and the pieces of a line.
use Rattle.std.proofs.Common.{◌≡◌, ◌∙◌, ℕ, List, [], ◌∷◌, ◌++◌, refl, ap, sym, append_assoc, append-nil}
use Rattle.unit_speeds.specs.declared.line.SpeedLine.{SpeedLine}
use Rattle.unit_speeds.specs.Text.{AddsSpeedLine, AreSpeedLines, speed_words}

-- what stands for a line past the end
abbrev pub no_line : SpeedLine
no_line = record { time = 0; most = 0; mean = 0; moving = 0 }

pub lines_more : (lines : List SpeedLine) (line : SpeedLine) (text new : List ℕ) → AreSpeedLines lines text → AddsSpeedLine text new line → AreSpeedLines (lines ++ line ∷ []) new
lines_more [] line text new is more =
    (more.0, [], more.1, more.2 ∙ ap (λ (t : List ℕ). t ++ more.0 ++ speed_words line) is ∙ sym (append-nil (more.0 ++ speed_words line)), refl)
lines_more (first ∷ lines) line text new is more = (
  is.0,
  is.1 ++ more.0 ++ speed_words line,
  is.2,
  more.2 ∙ ap (λ (t : List ℕ). t ++ more.0 ++ speed_words line) is.3 ∙ by is.0 (speed_words first) is.1 more.0 (speed_words line),
  lines_more lines line is.1 (is.1 ++ more.0 ++ speed_words line) is.4 (more.0, more.1, refl),
)
  where
    by : (a b c d e : List ℕ) → (((a ++ b) ++ c) ++ d) ++ e ≡ (a ++ b) ++ ((c ++ d) ++ e)
    by a b c d e = simp append_assoc

pub seven_pieces : (t a b c d e f g : List ℕ) → ((((((t ++ a) ++ b) ++ c) ++ d) ++ e) ++ f) ++ g ≡ (t ++ a) ++ (((((b ++ c) ++ d) ++ e) ++ f) ++ g)
seven_pieces t a b c d e f g = simp append_assoc
