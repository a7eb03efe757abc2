-- The text of lines and of one more.
use Rattle.std.proofs.Common.{◌≡◌, ◌∙◌, ℕ, suc, zero, ◌<◌, List, [], ◌∷◌, ◌++◌, length, get_or, refl, ap, sym, arith, append_assoc, append-nil}
use Rattle.run_model.specs.declared.Device.TheVariants.{Unit as OfUnit}
use Rattle.tacho_types.specs.declared.calendar.TheConstants.{DAYS}
use Rattle.state_text.specs.declared.line.Line.{Line}
use Rattle.state_text.specs.declared.line.Name.TheVariants.{Whole}
use Rattle.state_text.specs.declared.line.Value.TheVariants.{Valid}
use Rattle.state_text.specs.Lines.{day_of, AreDated}
use Rattle.state_text.specs.Text.{line_text, AddsLine, AreLinesText}

-- what stands for a line past the end
abbrev pub no_line : Line
no_line = record { device = OfUnit; name = Whole; value = Valid }

behind : (text a b c : List ℕ) → text ≡ a ++ b → text ++ c ≡ a ++ (b ++ c)
behind text a b c is = ap (λ (t : List ℕ). t ++ c) is ∙ append_assoc a b c

pub lines-more : (lines : List Line) (line : Line) (text new : List ℕ) → AreLinesText lines text → AddsLine text new line → AreLinesText (lines ++ line ∷ []) new
lines-more [] line text new is more =
    (more.0, [], more.1, more.2 ∙ ap (λ (t : List ℕ). t ++ line_text more.0 line) is ∙ sym (append-nil (line_text more.0 line)), refl)
lines-more (first ∷ lines) line text new is more = (
  is.0,
  is.1 ++ line_text more.0 line,
  is.2,
  more.2 ∙ behind text (line_text is.0 first) is.1 (line_text more.0 line) is.3,
  lines-more lines line is.1 (is.1 ++ line_text more.0 line) is.4 (more.0, more.1, refl),
)

-- a line at an index
pub dated-at : (lines : List Line) (i : ℕ) → i < length lines → AreDated lines → day_of (get_or lines i no_line).value < DAYS
dated-at [] i lt all = absurd (omega (arith, lt))
dated-at (line ∷ lines) zero lt all = all.0
dated-at (line ∷ lines) (suc i) lt all = dated-at lines i (omega (arith, lt)) all.1
