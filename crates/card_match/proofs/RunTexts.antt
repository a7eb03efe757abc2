-- The text of runs and of one more, and of none.
use Rattle.std.proofs.Common.{◌≡◌, ◌∙◌, ℕ, List, [], ◌∷◌, ◌++◌, refl, ap, sym, append_assoc, append-nil}
use Rattle.std.specs.Prelude.{codes}
use Rattle.calendar_days.specs.Calendar.{IsDateText}
use Rattle.view_model.specs.declared.Line.{Line}
use Rattle.view_model.specs.Lines.{day_of_minute}
use Rattle.view_text.specs.Text.{line_text}
use Rattle.card_match.specs.declared.difference.Difference.{Difference}
use Rattle.card_match.specs.Text.{difference_words, AreRunsText}

-- a line of a run at the end
abbrev pub AddsRun : (old new : List ℕ) → Line Difference → Type 0
AddsRun old new run = (date : List ℕ) × IsDateText (day_of_minute run.first) date × (new ≡ old ++ codes "differs " ++ date ++ line_text difference_words run)

in_parts : (a b c d e f g : List ℕ) → a ++ b ++ c ++ d ++ e ++ f ++ g ≡ a ++ b ++ c ++ (d ++ e ++ f ++ g)
in_parts a b c d e f g = simp append_assoc

pub runs_more : (runs : List (Line Difference)) (run : Line Difference) (text new : List ℕ) → AreRunsText runs text → AddsRun text new run → AreRunsText (runs ++ run ∷ []) new
runs_more [] run text new is more =
    (more.0, [], more.1, more.2 ∙ ap (λ (t : List ℕ). t ++ codes "differs " ++ more.0 ++ line_text difference_words run) is ∙ sym (append-nil (codes "differs " ++ more.0 ++ line_text difference_words run)), refl)
runs_more (first ∷ runs) run text new is more =
    let e : new ≡ codes "differs " ++ is.0 ++ line_text difference_words first ++ (is.1 ++ codes "differs " ++ more.0 ++ line_text difference_words run) =
    more.2
    ∙ ap (λ (t : List ℕ). t ++ codes "differs " ++ more.0 ++ line_text difference_words run) is.3
    ∙ in_parts (codes "differs ") is.0 (line_text difference_words first) is.1 (codes "differs ") more.0 (line_text difference_words run) in
    (is.0, is.1 ++ codes "differs " ++ more.0 ++ line_text difference_words run, is.2, e, runs_more runs run is.1 (is.1 ++ codes "differs " ++ more.0 ++ line_text difference_words run) is.4 (more.0, more.1, refl))
