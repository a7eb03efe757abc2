-- Which days go for room, and which are left.
use Rattle.std.proofs.Common.{◌≡◌, ◌⊎◌, inl, inr, ⊎_elim, ℕ, ◌+◌, ◌<◌, ◌≤◌, Bool, cond, List, [], ◌∷◌, ◌++◌, refl, sym, ◌∙◌, ap, subst, arith}
use Rattle.std.proofs.lemmas.Bool.{cases_lt, le-leb, lt-leb}
use Rattle.card_model.specs.Days.{Day, len_of, total, AreDays}
use Rattle.card_model.specs.Changes.{Remain, fitting, OnNewest}
use Rattle.card_model.proofs.Lists.{len_most}

pub remain_all : (room : ℕ) (days : List Day) → Remain room days days
remain_all room [] = refl
remain_all room (d ∷ ds) = inl refl

-- what is left of what is left
pub remain_then : (room : ℕ) (days kept still : List Day) → Remain room days kept → Remain room kept still → Remain room days still
remain_then room [] kept still first next = subst (λ (l : List Day). Remain room l still) first next
remain_then room (d ∷ ds) kept still first next =
    ⊎_elim (λ is. subst (λ (l : List Day). Remain room l still) is next) (λ gone. inr (gone.0, remain_then room ds kept still gone.1 next)) first

pub fitting_all : (room : ℕ) (days : List Day) → total days ≤ room → fitting room days ≡ days
fitting_all room [] le = refl
fitting_all room (d ∷ ds) le = ap (λ (b : Bool). cond b (d ∷ ds) (fitting room ds)) (le-leb (total (d ∷ ds)) room le)

pub fitting_more : (room : ℕ) (d : Day) (ds : List Day) → room < total (d ∷ ds) → fitting room (d ∷ ds) ≡ fitting room ds
fitting_more room d ds lt = ap (λ (b : Bool). cond b (d ∷ ds) (fitting room ds)) (lt-leb (total (d ∷ ds)) room lt)

-- days that are some do not all go
pub newest_gone : (room date : ℕ) (days : List Day) → 2892 ≤ room → AreDays date days → room < total days → fitting room days ≡ [] → ⊥
newest_gone room date [] big are over none = absurd (omega (arith, over))
newest_gone room date (d ∷ []) big are over none = absurd (omega (arith, over, big, len_most d are.1))
newest_gone room date (d ∷ e ∷ ds) big are over none = ⊎_elim
    (λ lt. newest_gone room d.date (e ∷ ds) big are.2 lt (sym (fitting_more room d (e ∷ ds) over) ∙ none))
    (λ le. let left : e ∷ ds ≡ [] = sym (fitting_all room (e ∷ ds) le) ∙ (sym (fitting_more room d (e ∷ ds) over) ∙ none) in cc)
    (cases_lt room (total (e ∷ ds)))

-- the newest of the days that are gone did not fit with those that are left
pub record Gone (room : ℕ) (days kept : List Day) : Type 0 where
  pub before : List Day
  pub last : Day
  pub is : days ≡ before ++ last ∷ kept
  pub over : room < len_of last + total kept

pub remain_bound : (room : ℕ) (days kept : List Day) → Remain room days kept → (kept ≡ days) ⊎ Gone room days kept
remain_bound room [] kept is = inl is
remain_bound room (d ∷ ds) kept (inl is) = inl is
remain_bound room (d ∷ ds) kept (inr (over, rest)) = ⊎_elim
    (λ same. inr (record { before = []; last = d; is = ap (λ (l : List Day). d ∷ l) (sym same); over = omega (arith, over, ap total same) }))
    (λ gone. inr (record { before = d ∷ gone.before; last = gone.last; is = ap (λ (l : List Day). d ∷ l) gone.is; over = gone.over }))
    (remain_bound room ds kept rest)

-- the days that fit do, are left, and are the most
pub fitting_fits : (room : ℕ) (days : List Day) → total (fitting room days) ≤ room
fitting_fits room [] = omega arith
fitting_fits room (d ∷ ds) = ⊎_elim
    (λ lt. omega (arith, ap total (fitting_more room d ds lt), fitting_fits room ds))
    (λ le. omega (arith, ap total (fitting_all room (d ∷ ds) le), le))
    (cases_lt room (total (d ∷ ds)))

pub remain_fitting : (room : ℕ) (days : List Day) → Remain room days (fitting room days)
remain_fitting room [] = refl
remain_fitting room (d ∷ ds) = ⊎_elim
    (λ lt. inr (lt, subst (λ (l : List Day). Remain room ds l) (sym (fitting_more room d ds lt)) (remain_fitting room ds)))
    (λ le. inl (fitting_all room (d ∷ ds) le))
    (cases_lt room (total (d ∷ ds)))

pub fitting_longest : (room : ℕ) (front back : List Day) → total back ≤ room → (more : List Day) × (fitting room (front ++ back) ≡ more ++ back)
fitting_longest room [] back fits = ([], fitting_all room back fits)
fitting_longest room (d ∷ front) back fits = ⊎_elim
    (λ lt. let rest = fitting_longest room front back fits in (rest.0, fitting_more room d (front ++ back) lt ∙ rest.1))
    (λ le. (d ∷ front, fitting_all room (d ∷ (front ++ back)) le))
    (cases_lt room (total (d ∷ (front ++ back))))

-- the newest day is left
pub remain_some : (P : Day → Type 0) (room date : ℕ) (days kept : List Day) → 2892 ≤ room → AreDays date days → Remain room days kept → OnNewest P days → OnNewest P kept
remain_some P room date [] kept big are left on = absurd on
remain_some P room date (d ∷ ds) kept big are (inl is) on = subst (λ (l : List Day). OnNewest P l) (sym is) on
remain_some P room date (d ∷ []) kept big are (inr (over, rest)) on = absurd (omega (arith, over, big, len_most d are.1))
remain_some P room date (d ∷ e ∷ ds) kept big are (inr (over, rest)) on = remain_some P room d.date (e ∷ ds) kept big are.2 rest on
