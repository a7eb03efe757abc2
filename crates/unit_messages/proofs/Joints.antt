-- Parts of a told image that pass by, one after the other.
use Rattle.std.proofs.Common.{◌≡◌, Option, Some, IfSome, List, ◌++◌, ℕ, subst, ◌∙◌, ap}
use Rattle.tach_media.proofs.Runs.{both_told}
use Rattle.unit_messages.specs.Windows.{Sight, passed}
use Rattle.unit_messages.proofs.Windows.{passed_both}

pub then_passed : (u v w : Sight) (a b : List ℕ) → v ≡ passed w a → u ≡ passed v b → u ≡ passed w (a ++ b)
then_passed u v w a b before after = after ∙ ap (λ (s : Sight). passed s b) before ∙ passed_both w a b

-- what is said of a told image, of the one that is told
pub at_told : {o : Option (List ℕ)} (A : List ℕ → Type 0) (x : List ℕ) → o ≡ Some x → IfSome o A → A x
at_told A x told said = subst (λ (q : Option (List ℕ)). IfSome q A) told said

-- two parts of the image
pub told_then : (o : Option (List ℕ)) (u v w : Sight) (a b : List ℕ → List ℕ) → IfSome o (λ x. v ≡ passed w (a x)) → IfSome o (λ x. u ≡ passed v (b x)) → IfSome o (λ x. u ≡ passed w (a x ++ b x))
told_then o u v w a b before after = both_told o (λ x. u ≡ passed w (a x ++ b x)) before after (λ x told first next. then_passed u v w (a x) (b x) first next)
