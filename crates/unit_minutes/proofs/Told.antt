-- What is told of the image before a run, and of that after it.
use Rattle.std.proofs.Common.{◌≡◌, List, ℕ, Option, Some, None, IfSome, is_some, refl}
use Rattle.tach_media.proofs.Runs.{told_too}

pub told : (o : Option (List ℕ)) (A C : List ℕ → Type 0) → IfSome o A → ((x : List ℕ) → o ≡ Some x → A x → C x) → IfSome o C
told None A C said all = tt
told (Some x) A C said all = all x refl said

-- what holds of the image after a run, where that before is told too
pub told_back : (o p : Option (List ℕ)) (P : List ℕ → Type 0) → is_some p ≡ is_some o → ((x z : List ℕ) → o ≡ Some x → p ≡ Some z → P z) → IfSome p P
told_back o None P same all = tt
told_back o (Some z) P same all = let before = told_too (Some z) o z same refl in all before.0 z before.1 refl
