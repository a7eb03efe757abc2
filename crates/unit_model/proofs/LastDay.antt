-- In an image that decodes the last recorded day is that of the last-kept minute, with its minutes up to it.
use Rattle.std.proofs.Common.{◌≡◌, ℕ, zero, suc, ◌+◌, ◌/◌, ◌<◌, ◌≤◌, Bool, true, false, cond, List, [], ◌∷◌, ◌++◌, map, filter, Option, Some, None, refl, sym, ◌∙◌, ap, subst, arith}
use Rattle.std.specs.Prelude.{◌==◌, ◌&&◌, ◌||◌, nat_le, MatchOption}
use Rattle.std.specs.List.{list_any, range_with_len}
use Rattle.std.proofs.lemmas.Bool.Decides.{nat_tests}
use Rattle.std.proofs.lemmas.List.{append-nil}
use Rattle.std.proofs.lemmas.List.Elements.{filter-append}
use Rattle.gated_ring.specs.Ring.{pointer, is_there, entry_at}
use Rattle.gated_ring.proofs.Orders.{filter_last, filter_none}
use Rattle.unit_model.specs.declared.layout.TheConstants.{DAY_SLOTS}
use Rattle.unit_model.specs.Days.{day_of, day_shown, Each}
use Rattle.unit_model.specs.Image.{day_ring, last_kept, unit_day, indices, recorded, slot_date}
use Rattle.unit_model.specs.Decoding.{Decodes, slot_day}
use Rattle.unit_model.proofs.Decoded.{IsDecoded}
use Rattle.unit_model.specs.Image.{stray_of, stray_list}
use Rattle.unit_model.specs.Image.{recorded_indices}
use Rattle.unit_model.proofs.Finding.{placed, first_indices, apart, all_there}
use Rattle.unit_model.proofs.Recorded.{recorded_are}
use Rattle.unit_model.proofs.Recorded.{date_in}
use Rattle.unit_model.proofs.Slots.{day_at}
use Rattle.unit_model.proofs.WholeDays.{decoded_of, dates_whole}
use Rattle.unit_model.proofs.Rising.{AreRising, AreInOrder, rising_front, all_rising, in_turn}

-- one of a range where some passes
any_of : (P : ℕ → Bool) (a n : ℕ) → list_any P (range_with_len a n) ≡ true → (i : ℕ) × (i < a + n) × (P i ≡ true)
any_of P a zero is = absurd (cc)
any_of P a (suc n) is = by (P a) refl (any_of P (a + 1) n) is
  where
    by : (b : Bool) → P a ≡ b → (list_any P (range_with_len (a + 1) n) ≡ true → (i : ℕ) × (i < a + 1 + n) × (P i ≡ true)) → (b || list_any P (range_with_len (a + 1) n)) ≡ true → (i : ℕ) × (i < a + suc n) × (P i ≡ true)
    by true here more all = (a, omega arith, here)
    by false here more all = let at = more all in (at.0, omega (arith, at.1), at.2)

both_true : (a b : Bool) → (a && b) ≡ true → (a ≡ true) × (b ≡ true)
both_true true b is = (refl, is)
both_true false b is = absurd (cc)

eq_of : (a b : ℕ) → (a == b) ≡ true → a ≡ b
eq_of a b is = grind (arith, nat_tests)

le_true : (a b : ℕ) → a ≤ b → nat_le a b ≡ true
le_true a b is = grind (arith, nat_tests)

le_of : (a b : ℕ) → nat_le a b ≡ true → a ≤ b
le_of a b is = grind (arith, nat_tests)

le_false : (a b : ℕ) → b < a → nat_le a b ≡ false
le_false a b is = grind (arith, nat_tests)

module _ (x : List ℕ) where
  abbrev K : ℕ
  K = last_kept x / 1440

  abbrev p : ℕ → Bool
  p i = nat_le (slot_date x i / 86400) K

  abbrev stray : Option ℕ
  stray = stray_of (last_kept x) (pointer day_ring x) (slot_date x (pointer day_ring x))

  -- a later day is not recorded
  stray_out : (s : Option ℕ) → MatchOption s (Unit {0}) (λ s. (s < DAY_SLOTS) × (pointer day_ring x ≡ s) × (K < day_of (unit_day (entry_at day_ring x s)))) → filter p (stray_list s) ≡ []
  stray_out None later = refl
  stray_out (Some s) later = filter_none p s (le_false (slot_date x s / 86400) K (omega (arith, later.2, date_in x s)))

  -- the days of the images that hold none, and of those that hold the last-kept minute's
  none_recorded : IsDecoded x → last_kept x ≡ 0 → recorded_indices x ≡ []
  unfolding recorded_indices
  none_recorded ok first = ap (filter p) (first_indices x ok first) ∙ stray_out stray (apart x ok)

  earlier_stay : (js : List ℕ) → Each (λ d. day_of d < K) (map (λ i. unit_day (entry_at day_ring x i)) js) → filter p js ≡ js
  earlier_stay [] all = refl
  earlier_stay (j ∷ js) all =
      let on : p j ≡ true = le_true (slot_date x j / 86400) K (omega (arith, all.0, date_in x j)) in
      ap (λ (b : Bool). cond b (j ∷ filter p js) (filter p js)) on ∙ ap (λ (l : List ℕ). j ∷ l) (earlier_stay js all.1)

  last_recorded : IsDecoded x → 0 < last_kept x → (older : List ℕ) × (i : ℕ) × (slot_date x i / 86400 ≡ K) × (recorded_indices x ≡ older ++ i ∷ []) × (indices x ≡ (older ++ i ∷ []) ++ stray_list stray)
  unfolding recorded_indices
  last_recorded ok some =
      let at = any_of (λ i. is_there day_ring x i && slot_day x i == K) 0 DAY_SLOTS (ok.today some) in
      let i : ℕ = at.0 in
      let parts = both_true (is_there day_ring x i) (slot_day x i == K) at.2 in
      let day_is : slot_date x i / 86400 ≡ K = eq_of (slot_date x i / 86400) K parts.1 in
      let place = placed x ok i (omega (arith, at.1)) parts.0 day_is in
      let older : List ℕ = place.0 in (
        older,
        i,
        day_is,
        ap (filter p) place.1.order_is ∙ filter-append p (older ++ i ∷ []) (stray_list stray)
            ∙ ap (λ (l : List ℕ). filter p (older ++ i ∷ []) ++ l) (stray_out stray (apart x ok)) ∙ append-nil (filter p (older ++ i ∷ []))
            ∙ filter_last p older i (le_true (slot_date x i / 86400) K (omega (arith, day_is)))
            ∙ ap (λ (l : List ℕ). l ++ i ∷ []) (earlier_stay older place.1.earlier),
        place.1.order_is,
      )

each_low : (x : List ℕ) (k : ℕ) (js : List ℕ) → Each (λ j. nat_le (slot_date x j / 86400) k ≡ true) js → Each (λ d. day_of d ≤ k) (map (day_at x) js)
each_low x k [] all = tt
each_low x k (j ∷ js) all = (let low = le_of (slot_date x j / 86400) k all.0 in omega (arith, low, date_in x j), each_low x k js all.1)

-- the recorded days come one after the other, and none is later than the last-kept minute's
pub in_order : (x : List ℕ) → IsDecoded x → 0 < last_kept x → AreInOrder (map (day_at x) (recorded_indices x)) × Each (λ d. day_of d ≤ last_kept x / 1440) (map (day_at x) (recorded_indices x))
unfolding recorded_indices
in_order x ok some =
    let last = last_recorded x ok some in
    let older : List ℕ = last.0 in
    let i : ℕ = last.1 in
    let js : List ℕ = older ++ i ∷ [] in
    let rising : AreRising (slot_date x) [] js = rising_front (slot_date x) [] js (stray_list (stray x)) (subst (AreRising (slot_date x) []) last.4 (all_rising x ok)) in (
      in_turn x [] (recorded_indices x) (dates_whole x ok) (subst (AreRising (slot_date x) []) (sym last.3) rising),
      each_low x (last_kept x / 1440) (recorded_indices x) (all_there (λ j. nat_le (slot_date x j / 86400) (last_kept x / 1440)) (indices x)),
    )

-- before the first minute no day is recorded
pub none_shown : (x : List ℕ) → Decodes x → last_kept x ≡ 0 → recorded x ≡ []
none_shown x decodes first = recorded_are x ∙ ap (map (λ i. day_shown (last_kept x) (day_at x i))) (none_recorded x (decoded_of x decodes) first)
