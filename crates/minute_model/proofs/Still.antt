-- Seconds at speed 0 at the ends of a list.
use Rattle.std.proofs.Common.{◌≡◌, ◌∙◌, Bool, true, false, cond, ◌&&◌, List, [], ◌∷◌, ◌++◌, refl, ap}
use Rattle.std.proofs.lemmas.List.Folds.{list_all-append}
use Rattle.minute_model.specs.Second.{Second}
use Rattle.minute_model.specs.Stops.{is_still, all_still, last_still}
use Rattle.minute_model.proofs.EachSecond.{first_still}
use Rattle.activity_codec.proofs.ByTest.{by_test}

pub all_still-append : (xs ys : List Second) → all_still (xs ++ ys) ≡ (all_still xs && all_still ys)
all_still-append xs ys = list_all-append is_still xs ys

-- a list of still seconds is its own end
pub last_still-all : (xs : List Second) → all_still xs ≡ true → last_still xs ≡ xs
last_still-all [] h = refl
last_still-all (x ∷ xs) h = rw h refl

-- still seconds behind a list lengthen its end
pub last_still-append : (xs ys : List Second) → all_still ys ≡ true → last_still (xs ++ ys) ≡ last_still xs ++ ys
last_still-append [] ys h = last_still-all ys h
last_still-append (x ∷ xs) ys h =
    let same : all_still (x ∷ xs ++ ys) ≡ all_still (x ∷ xs) = all_still-append (x ∷ xs) ys ∙ rw h (and-true (all_still (x ∷ xs))) in
    rw same (by_cases (all_still (x ∷ xs)) (last_still-append xs ys h))
  where
    and-true : (b : Bool) → (b && true) ≡ b
    and-true true = refl
    and-true false = refl

    by_cases : (b : Bool) → last_still (xs ++ ys) ≡ last_still xs ++ ys → cond b (x ∷ xs ++ ys) (last_still (xs ++ ys)) ≡ cond b (x ∷ xs) (last_still xs) ++ ys
    by_cases true e = refl
    by_cases false e = e

-- motion behind a list cuts its end off
pub last_still-cut : (xs ys : List Second) → all_still ys ≡ false → last_still (xs ++ ys) ≡ last_still ys
last_still-cut [] ys h = refl
last_still-cut (x ∷ xs) ys h =
    let moved : all_still (x ∷ xs ++ ys) ≡ false = all_still-append (x ∷ xs) ys ∙ rw h (and-false (all_still (x ∷ xs))) in
    rw moved (last_still-cut xs ys h)
  where
    and-false : (b : Bool) → (b && false) ≡ false
    and-false true = refl
    and-false false = refl

-- the seconds at the front, with more behind
pub first_still-append : (xs ys : List Second) → all_still xs ≡ true → first_still (xs ++ ys) ≡ xs ++ first_still ys
first_still-append [] ys h = refl
first_still-append (x ∷ xs) ys h =
    by_test (is_still x)
    (λ yes. let rest = rw yes at h in rw yes (ap (λ (zs : List Second). x ∷ zs) (first_still-append xs ys rest)))
    (λ no. let bad = rw no at h in cc)

pub first_still-cut : (xs ys : List Second) → all_still xs ≡ false → first_still (xs ++ ys) ≡ first_still xs
first_still-cut [] ys h = cc
first_still-cut (x ∷ xs) ys h =
    by_test (is_still x)
    (λ yes. let rest = rw yes at h in rw yes (ap (λ (zs : List Second). x ∷ zs) (first_still-cut xs ys rest)))
    (λ no. rw no refl)

pub first_still-all : (xs : List Second) → all_still xs ≡ true → first_still xs ≡ xs
first_still-all [] h = refl
first_still-all (x ∷ xs) h =
    by_test (is_still x)
    (λ yes. let rest = rw yes at h in rw yes (ap (λ (zs : List Second). x ∷ zs) (first_still-all xs rest)))
    (λ no. let bad = rw no at h in cc)
