-- The image of a new unit decodes, and no day is recorded there.
use Rattle.std.proofs.Common.{◌≡◌, ℕ, ◌+◌, ◌-◌, ◌<◌, ◌≤◌, Bool, false, not, cond, List, [], ◌∷◌, ◌++◌, length, take, drop, map, filter, refl, sym, ◌∙◌, ap, arith, append_assoc, length-append}
use Rattle.std.specs.Prelude.{◌==◌}
use Rattle.gated_ring.specs.card_layout.Images.{big_number}
use Rattle.std.proofs.lemmas.List.{take-replicate, drop-replicate, drop_at, drop-drop}
use Rattle.gated_ring.specs.tach_media.Medium.{bytes_at}
use Rattle.gated_ring.specs.Ring.{number_at, pointer, is_there, entry_at, next, order, indices as ring_indices}
use Rattle.gated_ring.proofs.Orders as orders
use Rattle.gated_ring.proofs.Orders.{order_each}
use Rattle.unit_model.specs.declared.layout.TheConstants.{DAYS, DAY_SLOTS, IDENTIFICATION, IMAGE_SIZE, LAST_KEPT}
use Rattle.unit_model.specs.Days.{days_shown}
use Rattle.unit_model.specs.Image.{last_kept, day_ring, slot_place, unit_day, unit_days, indices, recorded}
use Rattle.unit_model.specs.NewImage.{zeros, new_image}

zeros_part : (k m n : ℕ) → k + m ≤ n → take m (drop k (zeros n)) ≡ zeros m
unfolding zeros
zeros_part k m n le = ap (take m) (drop-replicate k n 0) ∙ take-replicate m (n - k) 0 (omega (arith, le))

zeros_four : big_number 4 (zeros 4) ≡ 0
unfolding zeros
zeros_four = refl

none_pass : (p : ℕ → Bool) (js : List ℕ) → orders.Each (λ j. p j ≡ false) js → filter p js ≡ []
none_pass p [] all = refl
none_pass p (j ∷ js) all = ap (λ (b : Bool). cond b (j ∷ filter p js) (filter p js)) all.0 ∙ none_pass p js all.1

module _ (vin registration : List ℕ) (limit : ℕ) (vin_long : length vin ≡ 17) (registration_long : length registration ≡ 15) where
  abbrev x : List ℕ
  x = new_image vin registration limit

  abbrev front : List ℕ
  front = (0 ∷ 0 ∷ 0 ∷ 1 ∷ []) ++ (vin ++ (registration ++ limit ∷ []))

  front_long : length front ≡ 37
  front_long = omega (arith, length-append vin (registration ++ limit ∷ []), length-append registration (limit ∷ []), vin_long, registration_long)

  in_two : x ≡ front ++ zeros (IMAGE_SIZE - IDENTIFICATION.place)
  unfolding new_image
  in_two = ap (λ (l : List ℕ). (0 ∷ 0 ∷ 0 ∷ 1 ∷ []) ++ l)
      (ap (λ (l : List ℕ). vin ++ l) (sym (append_assoc registration (limit ∷ []) (zeros (IMAGE_SIZE - IDENTIFICATION.place)))) ∙ sym (append_assoc vin (registration ++ limit ∷ []) (zeros (IMAGE_SIZE - IDENTIFICATION.place))))

  -- behind the speed limit there are zeros
  pub new_zeros : (p n : ℕ) → 37 ≤ p → p + n ≤ IMAGE_SIZE → bytes_at x p n ≡ zeros n
  new_zeros p n low high =
      let k = p - 37 in
      let is : 37 + k ≡ p = omega (arith, low) in
      ap (λ (q : ℕ). take n (drop q x)) (sym is) ∙ ap (take n) (sym (drop-drop k 37 x)) ∙ ap (λ (l : List ℕ). take n (drop k (drop 37 l))) in_two
      ∙ ap (λ (l : List ℕ). take n (drop k l)) (drop_at front (zeros (IMAGE_SIZE - IDENTIFICATION.place)) 37 front_long) ∙ zeros_part k n (IMAGE_SIZE - IDENTIFICATION.place) (omega (arith, low, high))

  zero : (p : ℕ) → 37 ≤ p → p + 4 ≤ IMAGE_SIZE → number_at x p 4 ≡ 0
  zero p low high = ap (big_number 4) (new_zeros p 4 low high) ∙ zeros_four

  pub new_kept : last_kept x ≡ 0
  unfolding last_kept
  new_kept = zero LAST_KEPT.place (omega arith) (omega arith)

  new_pointer : pointer day_ring x ≡ 0
  new_pointer = zero DAYS.place (omega arith) (omega arith)

  no_slot : (i : ℕ) → i < DAY_SLOTS → is_there day_ring x i ≡ false
  no_slot i below = ap (λ (n : ℕ). not (n == 0)) (zero (slot_place i + 0) (omega arith) (omega (arith, below)))

  abbrev turn : List ℕ
  turn = order day_ring (next day_ring 0)

  no_slots : orders.Each (λ j. is_there day_ring x j ≡ false) turn
  no_slots = orders.each_weaker (λ j. j < DAY_SLOTS) (λ j. is_there day_ring x j ≡ false) turn no_slot (order_each day_ring (next day_ring 0) (omega arith))

  pub new_indices : indices x ≡ []
  unfolding indices ring_indices
  new_indices = (λ t. filter (is_there day_ring x) (order day_ring (next day_ring (new_pointer t)))) ∙ none_pass (is_there day_ring x) turn no_slots

  pub new_recorded : recorded x ≡ []
  unfolding recorded unit_days indices
  new_recorded = ap (λ (js : List ℕ). days_shown (last_kept x) (map unit_day (map (entry_at day_ring x) js))) new_indices
