-- What is said of a told image, joined.
use Rattle.std.proofs.Common.{◌≡◌, List, Option, Some, None, IfSome, ℕ, subst, refl, Result, true}
use Rattle.std.specs.Prelude.{IsErr, is_err, Bool}
use Rattle.tach_media.specs.Medium.{State, Reads}

-- said of the image before reads
pub carried : {o p : Option (List ℕ)} (P : List ℕ → Type 0) → p ≡ o → IfSome p P → IfSome o P
carried {o} {p} P same said = subst (λ (q : Option (List ℕ)). IfSome q P) same said

pub one_told : (o : Option (List ℕ)) {A : List ℕ → Type 0} (D : List ℕ → Type 0) → IfSome o A → ((x : List ℕ) → A x → D x) → IfSome o D
one_told None D a all = tt
one_told (Some x) D a all = all x a

pub three_told : (o : Option (List ℕ)) {A B C : List ℕ → Type 0} (D : List ℕ → Type 0) → IfSome o A → IfSome o B → IfSome o C → ((x : List ℕ) → A x → B x → C x → D x) → IfSome o D
three_told None D a b c all = tt
three_told (Some x) D a b c all = all x a b c

pub four_told : (o : Option (List ℕ)) {A B C D : List ℕ → Type 0} (E : List ℕ → Type 0) → IfSome o A → IfSome o B → IfSome o C → IfSome o D → ((x : List ℕ) → A x → B x → C x → D x → E x) → IfSome o E
four_told None E a b c d all = tt
four_told (Some x) E a b c d all = all x a b c d

-- said of a told image by what is told
pub told_all : (o : Option (List ℕ)) (D : List ℕ → Type 0) → ((x : List ℕ) → o ≡ Some x → D x) → IfSome o D
told_all None D all = tt
told_all (Some x) D all = all x Rattle.std.proofs.Common.refl

-- an error is one
pub err_true : {T E : Type 0} (r : Result T E) → IsErr r → is_err r ≡ true
err_true r is = is

-- reads that have failed, by another name of that
pub reads_failed : {old new : State} (f : Bool) → f ≡ true → Reads old new true → Reads old new f
reads_failed {old} {new} f is reads = subst (λ (b : Bool). Reads old new b) (Rattle.std.proofs.Common.sym is) reads
