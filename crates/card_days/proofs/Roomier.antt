-- What is left of the days after one drop, and after two.
use Rattle.std.proofs.Common.{◌≡◌, inl, inr, ⊎_elim, ℕ, ◌+◌, ◌<◌, ◌≤◌, Bool, cond, List, [], ◌∷◌, refl, sym, ◌∙◌, ap, subst, arith}
use Rattle.std.proofs.lemmas.Bool.{cases_lt, le-leb, lt-leb}
use Rattle.card_model.specs.Days.{Day, total, AreDays}
use Rattle.card_model.specs.Changes.{Remain, fitting, OnNewest, new_day, IsNext}
use Rattle.card_model.proofs.Retention.{remain_all, fitting_all, fitting_more}
use Rattle.card_days.specs.Steps.{roomier}
use Rattle.card_model.proofs.Lists.{len_least, len_most}

pub roomier_all : (room : ℕ) (days : List Day) → total days ≤ room → roomier room days ≡ days
roomier_all room [] le = refl
roomier_all room (d ∷ ds) le = ap (λ (b : Bool). cond b (d ∷ ds) ds) (le-leb (total (d ∷ ds)) room le)

pub roomier_less : (room : ℕ) (d : Day) (ds : List Day) → room < total (d ∷ ds) → roomier room (d ∷ ds) ≡ ds
roomier_less room d ds lt = ap (λ (b : Bool). cond b (d ∷ ds) ds) (lt-leb (total (d ∷ ds)) room lt)

-- one day at most is too many
pub fitting_once : (room date : ℕ) (days : List Day) → AreDays date days → total days ≤ room + 14 → (fitting room days ≡ roomier room days) × (total (roomier room days) ≤ room)
fitting_once room date [] are le = (refl, omega arith)
fitting_once room date (d ∷ ds) are le = ⊎_elim
    (λ lt. let short : total ds ≤ room = omega (arith, le, len_least d are.1) in
    let less : roomier room (d ∷ ds) ≡ ds = roomier_less room d ds lt in
    (fitting_more room d ds lt ∙ fitting_all room ds short ∙ sym less, omega (arith, short, ap total less)))
    (λ fits. let same : roomier room (d ∷ ds) ≡ d ∷ ds = roomier_all room (d ∷ ds) fits in
    (fitting_all room (d ∷ ds) fits ∙ sym same, omega (arith, fits, ap total same)))
    (cases_lt room (total (d ∷ ds)))

-- the newest day stays
pub newest_left : (P : Day → Type 0) (room date : ℕ) (days : List Day) → 2892 ≤ room → AreDays date days → OnNewest P days → OnNewest P (roomier room days)
newest_left P room date [] big are on = absurd on
newest_left P room date (d ∷ []) big are on = subst (λ (l : List Day). OnNewest P l) (sym (roomier_all room (d ∷ []) (omega (arith, len_most d are.1, big)))) on
newest_left P room date (d ∷ e ∷ ds) big are on = ⊎_elim
    (λ lt. subst (λ (l : List Day). OnNewest P l) (sym (roomier_less room d (e ∷ ds) lt)) on)
    (λ fits. subst (λ (l : List Day). OnNewest P l) (sym (roomier_all room (d ∷ e ∷ ds) fits)) on)
    (cases_lt room (total (d ∷ e ∷ ds)))

-- what is left after one drop is left of the days
pub remain_once : (room : ℕ) (days : List Day) → Remain room days (roomier room days)
remain_once room [] = refl
remain_once room (d ∷ ds) = ⊎_elim
    (λ lt. inr (lt, subst (λ (l : List Day). Remain room ds l) (sym (roomier_less room d ds lt)) (remain_all room ds)))
    (λ fits. inl (roomier_all room (d ∷ ds) fits))
    (cases_lt room (total (d ∷ ds)))

-- after two drops at most
pub fitting_twice : (room date : ℕ) (days : List Day) → AreDays date days → total days ≤ room + 28 → (fitting room days ≡ roomier room (roomier room days)) × (total (roomier room (roomier room days)) ≤ room)
fitting_twice room date [] are le = (refl, omega arith)
fitting_twice room date (d ∷ ds) are le = ⊎_elim
    (λ lt. let less : roomier room (d ∷ ds) ≡ ds = roomier_less room d ds lt in
    let once = fitting_once room d.date ds are.2 (omega (arith, le, len_least d are.1)) in
    (fitting_more room d ds lt ∙ once.0 ∙ sym (ap (λ (l : List Day). roomier room l) less), omega (arith, once.1, ap (λ (l : List Day). total (roomier room l)) less)))
    (λ fits. let same : roomier room (d ∷ ds) ≡ d ∷ ds = roomier_all room (d ∷ ds) fits in
    let twice : roomier room (roomier room (d ∷ ds)) ≡ d ∷ ds = ap (λ (l : List Day). roomier room l) same ∙ same in
    (fitting_all room (d ∷ ds) fits ∙ sym twice, omega (arith, fits, ap total twice)))
    (cases_lt room (total (d ∷ ds)))

-- what follows is the same
pub next_left : (room date : ℕ) (days : List Day) (new : ℕ) (words : List ℕ) → 2892 ≤ room → AreDays date days → IsNext days new words → (IsNext (roomier room days) new words) × (new_day (roomier room days) new words ≡ new_day days new words)
next_left room date [] new words big are next = (next, refl)
next_left room date (d ∷ []) new words big are next =
    let same : roomier room (d ∷ []) ≡ d ∷ [] = roomier_all room (d ∷ []) (omega (arith, len_most d are.1, big)) in
    (subst (λ (l : List Day). IsNext l new words) (sym same) next, ap (λ (l : List Day). new_day l new words) same)
next_left room date (d ∷ e ∷ ds) new words big are next = ⊎_elim
    (λ lt. let less : roomier room (d ∷ e ∷ ds) ≡ e ∷ ds = roomier_less room d (e ∷ ds) lt in
    (subst (λ (l : List Day). IsNext l new words) (sym less) (record { later = next.later; midnight = next.midnight; ordered = next.ordered }), ap (λ (l : List Day). new_day l new words) less))
    (λ fits. let same : roomier room (d ∷ e ∷ ds) ≡ d ∷ e ∷ ds = roomier_all room (d ∷ e ∷ ds) fits in
    (subst (λ (l : List Day). IsNext l new words) (sym same) next, ap (λ (l : List Day). new_day l new words) same))
    (cases_lt room (total (d ∷ e ∷ ds)))
