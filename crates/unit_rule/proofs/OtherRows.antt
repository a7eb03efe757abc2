-- The owed rows that go on for the numbers of two cards keep what they owe to others.
use Rattle.std.proofs.Common.{◌≡◌, inl, inr, ⊎_elim, ℕ, Option, Some, None, List, refl, ap, ◌∙◌}
use Rattle.tach_media.specs.card_layout.declared.files.Fid.{Fid}
use Rattle.unit_minutes.specs.unit_model.Image.{last_kept}
use Rattle.unit_minutes.specs.unit_owed.Owed.{rows_in}
use Rattle.unit_minutes.specs.unit_owed.Standing.{IsOneOf, RowsGoOn}
use Rattle.unit_minutes.proofs.unit_owed.Standing.{goes-for, goes-owed, all-owed}
use Rattle.safety_model.specs.device_rule.Own.{own_bad_file, own_number, IsOwnValid}
use Rattle.unit_rule.specs.OtherRows.{number_by, valid_number, IsOfCards, OwesStill, KeepsRows}

no-number : (n : List ℕ) → None ≡ Some n → ⊥
no-number n is = cc

same-number : (n m : List ℕ) → Some n ≡ Some m → n ≡ m
same-number n m is = cc

number-valid : (x number : List ℕ) → valid_number x ≡ Some number → IsOwnValid x × (own_number x ≡ number)
number-valid x number is = by (own_bad_file x) refl is
  where
    by : (o : Option (Fid × ℕ)) → own_bad_file x ≡ o → number_by o (own_number x) ≡ Some number → IsOwnValid x × (own_number x ≡ number)
    by None valid told = (valid, same-number (own_number x) number told)
    by (Some place) bad told = absurd (no-number number told)

pub valid-number : (x : List ℕ) → IsOwnValid x → valid_number x ≡ Some (own_number x)
valid-number x valid = ap (λ (o : Option (Fid × ℕ)). number_by o (own_number x)) valid

of-cards : (a b number : List ℕ) → IsOneOf (valid_number a) (valid_number b) number → IsOfCards a b number
of-cards a b number (inl is) = inl (number-valid a number is)
of-cards a b number (inr is) = inr (number-valid b number is)

of-one : (a b number : List ℕ) → IsOfCards a b number → IsOneOf (valid_number a) (valid_number b) number
of-one a b number (inl is) = inl (valid-number a is.0 ∙ ap (λ (n : List ℕ). Some n) is.1)
of-one a b number (inr is) = inr (valid-number b is.0 ∙ ap (λ (n : List ℕ). Some n) is.1)

pub keeps-rows : (x a b y : List ℕ) → RowsGoOn (IsOneOf (valid_number a) (valid_number b)) x (rows_in y) (last_kept y) → KeepsRows x a b y
keeps-rows x a b y goes = record { rows = on; others = λ number other. goes-owed (IsOfCards a b) x y on number other }
  where
    on : RowsGoOn (IsOfCards a b) x (rows_in y) (last_kept y)
    on = goes-for (IsOneOf (valid_number a) (valid_number b)) (IsOfCards a b) x (rows_in y) (last_kept y) (of-cards a b) (of-one a b) goes

-- where neither card is valid
pub owes-still : (x a b y : List ℕ) → (IsOwnValid a → ⊥) → (IsOwnValid b → ⊥) → KeepsRows x a b y → OwesStill x y
owes-still x a b y no_a no_b k = λ number. all-owed (IsOfCards a b) x y k.rows number (λ m is. ⊎_elim (λ one. no_a one.0) (λ two. no_b two.0) is)
