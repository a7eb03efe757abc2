-- Writes in the owed rows leave what a journal says of an image.
use Rattle.std.proofs.Common.{◌≡◌, inl, inr, ℕ, List, Option, Some, None, IfSome, is_some, option_map, sym, ◌∙◌, subst, arith}
use Rattle.tach_media.specs.Medium.{SameOutside}
use Rattle.unit_owed.specs.Owed.{rows_in}
use Rattle.unit_owed.specs.Rows.{HasRow, IsRowBegun}
use Rattle.unit_owed.proofs.Taking.{begun_is}
use Rattle.unit_minutes.specs.Image.{Notes, Agrees}
use Rattle.unit_model.specs.declared.layout.TheConstants.{OWED}
use Rattle.unit_minutes.proofs.Beside.{beside, agrees_beside}

pub still_agrees : (j : Notes) (o p : Option (List ℕ)) (f : List ℕ → List ℕ) (R : List ℕ → List ℕ → Type 0) → p ≡ option_map f o → IfSome o (Agrees j) → IfSome o (λ x. IfSome p (R x))
    → ((x y : List ℕ) → R x y → SameOutside OWED.place OWED.size x y) → IfSome p (Agrees j)
still_agrees j None p f R is agrees said outside = subst (λ (q : Option (List ℕ)). IfSome q (Agrees j)) (sym is) tt
still_agrees j (Some x) p f R is agrees said outside =
    let here : R x (f x) = subst (λ (q : Option (List ℕ)). IfSome q (R x)) is said in
    subst (λ (q : Option (List ℕ)). IfSome q (Agrees j)) (sym is) (agrees_beside x (f x) (beside OWED.place OWED.size x (f x) (inr (inl (omega arith, omega arith))) (outside x (f x) here)) j agrees)

-- what holds of the image after a call, by what the call says
pub told_after : (o p : Option (List ℕ)) (A : List ℕ → Type 0) (R : List ℕ → List ℕ → Type 0) (H : List ℕ → Type 0) → is_some p ≡ is_some o → IfSome o A → IfSome o (λ x. IfSome p (R x))
    → ((x y : List ℕ) → A x → R x y → H y) → IfSome p H
told_after o None A R H same before said all = tt
told_after None (Some y) A R H same before said all = absurd (cc)
told_after (Some x) (Some y) A R H same before said all = all x y before said

-- a row that is begun is the number's
pub begun_there : (number : List ℕ) (session : ℕ) (spared : Option (List ℕ)) (x y : List ℕ) → IsRowBegun number session spared x y → HasRow number y
begun_there number session spared x y is = let some = begun_is number spared (rows_in x) in (some.0, is.index ∙ some.1.0)

-- what follows of a number, by other names of its bytes
pub by_number : (P Q : List ℕ → Type 0) {n m : List ℕ} → n ≡ m → (P n → Q n) → P m → Q m
by_number P Q {n} {m} is goes said = subst Q is (goes (subst P (sym is) said))

-- what is said of a number and a spared one, by other names of their bytes
pub as_both : (P : List ℕ → Option (List ℕ) → Type 0) {n m : List ℕ} {s t : Option (List ℕ)} → n ≡ m → s ≡ t → P n s → P m t
as_both P {n} {m} {s} {t} number spared said = subst (λ (o : Option (List ℕ)). P m o) spared (subst (λ (l : List ℕ). P l s) number said)
