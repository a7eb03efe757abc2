-- Reads of bytes in memory do not fail.
use Rattle.std.proofs.Common.{◌≡◌, ℕ, List, Option, Some, None, Result, Ok, Err, refl, subst, arith}
use Rattle.std.specs.Prelude.{IfOk, IfSome, IsOk, OnOk, is_err}
use Rattle.tach_media.specs.declared.fault.Failed.{Failed}
use Rattle.tach_media.specs.Medium.{Reads}
use Rattle.tach_media.specs.SliceMedium.{slice_state}

pub never_fails : {A : Type 0} (a b : List ℕ) (r : Result A Failed) → Reads (slice_state a) (slice_state b) (is_err r) → IsOk r
never_fails a b (Ok v) reads = refl
never_fails a b (Err e) reads = absurd (omega (arith, reads.cause.fault refl))

-- what follows of an image that is told from two facts of it
pub told_both : (o : Option (List ℕ)) (P Q R : List ℕ → Type 0) → ((x : List ℕ) → P x → Q x → R x) → IfSome o P → IfSome o Q → IfSome o R
told_both None P Q R f p q = tt
told_both (Some x) P Q R f p q = f x p q

pub told_three : (o : Option (List ℕ)) (P Q R S : List ℕ → Type 0) → ((x : List ℕ) → P x → Q x → R x → S x) → IfSome o P → IfSome o Q → IfSome o R → IfSome o S
told_three None P Q R S f p q r = tt
told_three (Some x) P Q R S f p q r = f x p q r

-- what is so of an answer is so of the value in it
pub ok_told : {A E : Type 0} (r : Result A E) (v : A) (P : A → Type 0) → r ≡ Ok v → IfOk r P → P v
ok_told {A = A} {E = E} r v P is told = subst (λ (q : Result A E). IfOk q P) is told

-- what follows of what an Ok says
pub on_ok : {A E : Type 0} (r : Result A E) (P Q : Type 0) → (P → Q) → OnOk r P → OnOk r Q
on_ok (Ok v) P Q f p = f p
on_ok (Err e) P Q f p = tt

pub told_one : (o : Option (List ℕ)) (P Q : List ℕ → Type 0) → ((x : List ℕ) → P x → Q x) → IfSome o P → IfSome o Q
told_one None P Q f p = tt
told_one (Some x) P Q f p = f x p
