-- Facts of each element of a list.
use Rattle.std.proofs.Common.{◌≡◌, ℕ, zero, suc, List, [], ◌∷◌, ◌++◌, Option, Some, None}
use Rattle.std.specs.Prelude.{slice_get, option_to_list, IfSome}
use Rattle.std.specs.List.{AllByRecursion}

pub each_at : {X : Type 0} (P : X → Type 0) (xs : List X) (k : ℕ) (x : X) → AllByRecursion P xs → slice_get xs k ≡ Some x → P x
each_at P [] k x each is = absurd (cc)
each_at P (y ∷ ys) zero x each is = let same : y ≡ x = cc in rw (← same) each.0
each_at P (y ∷ ys) (suc k) x each is = each_at P ys k x each.1 is

pub each_more : {X : Type 0} (P : X → Type 0) (xs ys : List X) → AllByRecursion P xs → AllByRecursion P ys → AllByRecursion P (xs ++ ys)
each_more P [] ys all more = more
each_more P (x ∷ xs) ys all more = (all.0, each_more P xs ys all.1 more)

pub each_if : {X : Type 0} (P : X → Type 0) (xs : List X) (o : Option X) → AllByRecursion P xs → IfSome o P → AllByRecursion P (xs ++ option_to_list o)
each_if P xs None all one = each_more P xs [] all tt
each_if P xs (Some x) all one = each_more P xs (x ∷ []) all (one, tt)

pub each_weaker : {X : Type 0} (P Q : X → Type 0) (xs : List X) → ((x : X) → P x → Q x) → AllByRecursion P xs → AllByRecursion Q xs
each_weaker P Q [] so all = tt
each_weaker P Q (x ∷ xs) so all = (so x all.0, each_weaker P Q xs so all.1)

pub each_get : {X : Type 0} (P : X → Type 0) (xs : List X) (k : ℕ) → AllByRecursion P xs → IfSome (slice_get xs k) P
each_get P [] k all = tt
each_get P (x ∷ xs) zero all = all.0
each_get P (x ∷ xs) (suc k) all = each_get P xs k all.1
