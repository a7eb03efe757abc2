-- The entries by hand of a day, behind an index.
use Rattle.std.proofs.Common.{◌≡◌, ◌∙◌, inl, inr, ⊎_elim, ℕ, ◌+◌, ◌/◌, ◌<◌, ◌≤◌, Bool, true, cond, List, [], ◌∷◌, length, drop, get_or, sym, ap, arith}
use Rattle.std.specs.Prelude.{◌⊎◌, nat_eq}
use Rattle.std.proofs.lemmas.Bool.{eq-eqb, eqb-true, eqb-false}
use Rattle.std.proofs.lemmas.List.{drop_more}
use Rattle.activity_codec.specs.declared.values.Activity.TheVariants.{Rest}
use Rattle.activity_codec.specs.declared.values.Slot.TheVariants.{Driver}
use Rattle.activity_codec.specs.declared.entries.Manual.{Manual}
use Rattle.activity_codec.proofs.ByTest.{by_test}
use Rattle.hand_model.specs.Holding.{of_day, LieBetween, AreOfDay}

-- what stands past the end of a list
abbrev pub none : Manual
none = record { minute = 0; slot = Driver; act = Rest }

-- the one at an index, and those behind it
pub rest_is : (es : List Manual) (i : ℕ) → i < length es → drop i es ≡ get_or es i none ∷ drop (i + 1) es
rest_is es i low = drop_more es i none low

here : (day : ℕ) (es : List Manual) (i : ℕ) → i < length es
    → of_day day (drop i es) ≡ cond (nat_eq ((get_or es i none).minute / 1440) day) (get_or es i none ∷ drop (i + 1) es) (of_day day (drop (i + 1) es))
here day es i low = ap (of_day day) (rest_is es i low)

pub day_from : (day : ℕ) (es : List Manual) (i : ℕ) → i < length es → (get_or es i none).minute / 1440 ≡ day → of_day day (drop i es) ≡ drop i es
day_from day es i low is =
    let yes : nat_eq ((get_or es i none).minute / 1440) day ≡ true = eq-eqb ((get_or es i none).minute / 1440) day is in
    here day es i low ∙ ap (λ (b : Bool). cond b (get_or es i none ∷ drop (i + 1) es) (of_day day (drop (i + 1) es))) yes ∙ sym (rest_is es i low)

pub day_next : (day : ℕ) (es : List Manual) (i : ℕ) → i < length es → ((get_or es i none).minute / 1440 ≡ day → ⊥) → of_day day (drop i es) ≡ of_day day (drop (i + 1) es)
day_next day es i low other =
    by_test (nat_eq ((get_or es i none).minute / 1440) day)
    (λ yes. absurd (other (eqb-true ((get_or es i none).minute / 1440) day yes)))
    (λ no. here day es i low ∙ ap (λ (b : Bool). cond b (get_or es i none ∷ drop (i + 1) es) (of_day day (drop (i + 1) es))) no)

-- ---- entries that lie between two minutes

pub earlier : (from after before : ℕ) (es : List Manual) → from ≤ after → LieBetween after before es → LieBetween from before es
earlier from after before [] le lie = omega (arith, le, lie)
earlier from after before (e ∷ es) le lie = (omega (arith, le, lie.0), lie.1)

-- so those of a day do
pub day_lies : (day after before : ℕ) (es : List Manual) → LieBetween after before es → LieBetween after before (of_day day es)
day_lies day after before [] lie = lie
day_lies day after before (e ∷ es) lie =
    by_test (nat_eq (e.minute / 1440) day)
    (λ yes. rw yes lie)
    (λ no. rw no (day_lies day after before es (earlier after e.minute before es (omega (arith, lie.0)) lie.1)))

-- whatever lies between lies between, whole
pub spans : (after before : ℕ) (es : List Manual) → LieBetween after before es → after < before
spans after before [] lie = lie
spans after before (e ∷ es) lie = omega (arith, lie.0, spans e.minute before es lie.1)

-- those of the day of the minute that they lie before are all of that day
behind_first : (after before : ℕ) (es : List Manual) → LieBetween after before es → AreOfDay (before / 1440) es ⊎ (after / 1440 < before / 1440)
behind_first after before [] lie = inl tt
behind_first after before (e ∷ es) lie =
    let most : e.minute < before = spans e.minute before es lie.1 in
    ⊎_elim
    (λ rest. by_test (nat_eq (e.minute / 1440) (before / 1440))
    (λ yes. inl (eqb-true (e.minute / 1440) (before / 1440) yes, rest))
    (λ no. inr (omega (arith, lie.0, most, eqb-false (e.minute / 1440) (before / 1440) no))))
    (λ far. inr (omega (arith, far, lie.0)))
    (behind_first e.minute before es lie.1)

pub day_all : (after before : ℕ) (es : List Manual) → LieBetween after before es → AreOfDay (before / 1440) (of_day (before / 1440) es)
day_all after before [] lie = tt
day_all after before (e ∷ es) lie =
    by_test (nat_eq (e.minute / 1440) (before / 1440))
    (λ yes. rw yes (whole e es lie yes))
    (λ no. rw no (day_all e.minute before es lie.1))
  where
    whole : (e : Manual) (es : List Manual) → LieBetween after before (e ∷ es) → nat_eq (e.minute / 1440) (before / 1440) ≡ true → AreOfDay (before / 1440) (e ∷ es)
    whole e es lie is =
        let same : e.minute / 1440 ≡ before / 1440 = eqb-true (e.minute / 1440) (before / 1440) is in
        ⊎_elim (λ rest. (same, rest)) (λ far. absurd (omega (arith, far, same))) (behind_first e.minute before es lie.1)
