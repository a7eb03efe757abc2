-- In an image that decodes each recorded day begins at its date, and its count is in range.
use Rattle.std.proofs.Common.{◌≡◌, ℕ, ◌/◌, ◌%◌, ◌<◌, Bool, true, false, cond, List, [], ◌∷◌, map, filter, Some, None, refl, sym, ◌∙◌, ap, arith}
use Rattle.std.specs.Prelude.{◌==◌, ◌&&◌, nat_le, nat_lt}
use Rattle.std.specs.List.{list_all}
use Rattle.std.proofs.lemmas.Bool.Decides.{nat_tests}
use Rattle.gated_ring.specs.Ring.{pointer, is_there, next, order, indices as ring_indices}
use Rattle.gated_ring.proofs.Orders as orders
use Rattle.gated_ring.proofs.Orders.{order_each, next_below}
use Rattle.unit_model.specs.declared.layout.TheConstants.{DAY_SLOTS}
use Rattle.unit_model.specs.Days.{Each}
use Rattle.unit_model.specs.Image.{last_kept, day_ring, indices, slot_date}
use Rattle.unit_model.specs.Decoding.{Check, first_failing, first_bad_place, checks, Decodes, indices_before}
use Rattle.unit_model.proofs.Decoded.{IsDecoded, decoded}
use Rattle.unit_model.specs.Image.{recorded_indices}

none_fails : (cs : List Check) → list_all (λ c. c.passes) cs ≡ true → first_failing cs ≡ None
none_fails [] all = refl
none_fails (c ∷ cs) all = by c.passes refl (none_fails cs)
  where
    by : (b : Bool) → c.passes ≡ b → (list_all (λ c. c.passes) cs ≡ true → first_failing cs ≡ None) → first_failing (c ∷ cs) ≡ None
    by true is rest = ap (λ (b : Bool). cond b (first_failing cs) (Some c.place)) is ∙ rest (sym (ap (λ (b : Bool). b && list_all (λ c. c.passes) cs) is) ∙ all)
    by false is rest = let bad : false ≡ true = sym (ap (λ (b : Bool). b && list_all (λ c. c.passes) cs) is) ∙ all in absurd (cc)

pub decoded_of : (x : List ℕ) → Decodes x → IsDecoded x
unfolding Decodes first_bad_place
decoded_of x whole = decoded x (none_fails (checks x) whole)

abbrev IsSlot : List ℕ → ℕ → Type 0
IsSlot x i = (i < DAY_SLOTS) × (is_there day_ring x i ≡ true)

slots_there : (x : List ℕ) (l : List ℕ) → orders.Each (λ i. i < DAY_SLOTS) l → Each (IsSlot x) (filter (is_there day_ring x) l)
slots_there x [] below = tt
slots_there x (i ∷ l) below = by (is_there day_ring x i) refl (slots_there x l below.1)
  where
    by : (b : Bool) → is_there day_ring x i ≡ b → Each (IsSlot x) (filter (is_there day_ring x) l) → Each (IsSlot x) (cond b (i ∷ filter (is_there day_ring x) l) (filter (is_there day_ring x) l))
    by true on rest = ((below.0, on), rest)
    by false off rest = rest

each_filter : (P : ℕ → Type 0) (p : ℕ → Bool) (l : List ℕ) → Each P l → Each P (filter p l)
each_filter P p [] all = tt
each_filter P p (i ∷ l) all = by (p i) (each_filter P p l all.1)
  where
    by : (b : Bool) → Each P (filter p l) → Each P (cond b (i ∷ filter p l) (filter p l))
    by true rest = (all.0, rest)
    by false rest = rest

first_of : (a b : Bool) → (a && b) ≡ true → a ≡ true
first_of true b is = refl
first_of false b is = absurd (cc)

zero_of : (n : ℕ) → (n == 0) ≡ true → n ≡ 0
zero_of n is = grind (arith, nat_tests)

module _ (x : List ℕ) (ok : IsDecoded x) where
  recorded_each : Each (IsSlot x) (recorded_indices x)
  unfolding recorded_indices indices ring_indices
  recorded_each = each_filter (IsSlot x) (λ i. nat_le (slot_date x i / 86400) (last_kept x / 1440)) (filter (is_there day_ring x) (order day_ring (next day_ring (pointer day_ring x))))
      (slots_there x (order day_ring (next day_ring (pointer day_ring x))) (order_each day_ring (next day_ring (pointer day_ring x)) (next_below day_ring (pointer day_ring x) ok.known)))

  whole_at : (i : ℕ) → IsSlot x i → slot_date x i % 86400 ≡ 0
  whole_at i slot = zero_of (slot_date x i % 86400)
      (first_of (slot_date x i % 86400 == 0) (list_all (λ d. nat_lt d (slot_date x i)) (map (slot_date x) (indices_before x i))
      && (Rattle.std.specs.Prelude.◌||◌ (nat_le (slot_date x i / 86400) (last_kept x / 1440)) (list_all (λ d. nat_le (d / 86400) (last_kept x / 1440)) (map (slot_date x) (indices_before x i))))) (ok.slots i slot.0 slot.1).date)

  pub dates_whole : Each (λ i. slot_date x i % 86400 ≡ 0) (recorded_indices x)
  dates_whole = by (recorded_indices x) recorded_each
    where
      by : (js : List ℕ) → Each (IsSlot x) js → Each (λ i. slot_date x i % 86400 ≡ 0) js
      by [] all = tt
      by (i ∷ js) all = (whole_at i all.0, by js all.1)
