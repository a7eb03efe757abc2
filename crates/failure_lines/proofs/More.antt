-- The lines of what a run tells, and of one more.
use Rattle.std.proofs.Common.{◌∙◌, List, ℕ, [], ◌∷◌, ◌++◌, refl, ap, sym, append_assoc, append-nil}
use Rattle.log_model.specs.declared.lines.Break.{Break}
use Rattle.log_model.specs.declared.lines.Find.{Find}
use Rattle.log_model.specs.declared.lines.Refused.{Refused}
use Rattle.failure_lines.specs.Failures.{IsBreakLine, AreTold}
use Rattle.failure_lines.specs.Refusals.{IsRefusalLine, AreRefusalLines}
use Rattle.failure_lines.specs.Turned.{IsVerdictLine, AreTurnedLines}

pub told_more : (bs : List Break) (b : Break) (text line : List ℕ) → AreTold bs text → IsBreakLine b line → AreTold (bs ++ b ∷ []) (text ++ line)
told_more [] b text line is told = (line, [], told, ap (λ (t : List ℕ). t ++ line) is ∙ sym (append-nil line), refl)
told_more (x ∷ bs) b text line is told = (is.0, is.1 ++ line, is.2, ap (λ (t : List ℕ). t ++ line) is.3 ∙ append_assoc is.0 is.1 line, told_more bs b is.1 line is.4 told)

pub refusals_more : (rs : List Refused) (r : Refused) (text line : List ℕ) → AreRefusalLines rs text → IsRefusalLine r line → AreRefusalLines (rs ++ r ∷ []) (text ++ line)
refusals_more [] r text line is told = (line, [], told, ap (λ (t : List ℕ). t ++ line) is ∙ sym (append-nil line), refl)
refusals_more (x ∷ rs) r text line is told = (is.0, is.1 ++ line, is.2, ap (λ (t : List ℕ). t ++ line) is.3 ∙ append_assoc is.0 is.1 line, refusals_more rs r is.1 line is.4 told)

pub turned_more : (fs : List Find) (f : Find) (text line : List ℕ) → AreTurnedLines fs text → IsVerdictLine f.verdict f.slot f.second line → AreTurnedLines (fs ++ f ∷ []) (text ++ line)
turned_more [] f text line is told = (line, [], told, ap (λ (t : List ℕ). t ++ line) is ∙ sym (append-nil line), refl)
turned_more (x ∷ fs) f text line is told = (is.0, is.1 ++ line, is.2, ap (λ (t : List ℕ). t ++ line) is.3 ∙ append_assoc is.0 is.1 line, turned_more fs f is.1 line is.4 told)
