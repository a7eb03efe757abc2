-- The entries that are there and chosen, one after the other.
use Rattle.std.proofs.Common.{◌≡◌, ℕ, ◌+◌, ◌-◌, ◌≤◌, Bool, true, false, not, List, [], ◌∷◌, ◌++◌, length, map, filter, refl, sym, ◌∙◌, ap, append_assoc, length-append, arith}
use Rattle.std.specs.List.{range_with_len}
use Rattle.std.specs.Prelude.{◌==◌, ◌||◌}
use Rattle.std.proofs.lemmas.List.{map-append}
use Rattle.std.proofs.lemmas.List.Elements.{filter-append}
use Rattle.card_layout.specs.Images.{number_at}
use Rattle.card_layout.specs.Fields.{joined}
use Rattle.card_layout.proofs.Spelled.{number_within}
use Rattle.gated_ring.specs.Ring.{Shape, is_there, entry_at, order, place_of}
use Rattle.unit_model.proofs.Words.{range_add}
use Rattle.message_model.specs.Records.{insertion_widths, insertion_time, withdrawal_time}
use Rattle.message_model.specs.Sending.{is_in_day}
use Rattle.card_layout.proofs.Fields.{number_part}
use Rattle.unit_messages.specs.declared.entries.Choice.{Choice}
use Rattle.unit_messages.specs.declared.entries.Choice.TheVariants.{Touching}
use Rattle.unit_messages.specs.Chosen.{chosen, chosen_at}

-- fields one after the other, in two parts
pub joined_both : (es fs : List (List ℕ)) → joined (es ++ fs) ≡ joined es ++ joined fs
joined_both [] fs = refl
joined_both (e ∷ es) fs = ap (λ (l : List ℕ). e ++ l) (joined_both es fs) ∙ sym (append_assoc e (joined es) (joined fs))

module _ (r : Shape) (choice : Choice) (x : List ℕ) where
  pub chosen_both : (is js : List ℕ) → chosen_at r choice x (is ++ js) ≡ chosen_at r choice x is ++ chosen_at r choice x js
  chosen_both is js =
      ap (λ (l : List ℕ). filter (chosen choice) (map (entry_at r x) l)) (filter-append (is_there r x) is js)
      ∙ ap (filter (chosen choice)) (map-append (entry_at r x) (filter (is_there r x) is) (filter (is_there r x) js))
      ∙ filter-append (chosen choice) (map (entry_at r x) (filter (is_there r x) is)) (map (entry_at r x) (filter (is_there r x) js))

  pub chosen_joined : (is js : List ℕ) → joined (chosen_at r choice x (is ++ js)) ≡ joined (chosen_at r choice x is) ++ joined (chosen_at r choice x js)
  chosen_joined is js = ap joined (chosen_both is js) ∙ joined_both (chosen_at r choice x is) (chosen_at r choice x js)

  -- whether an entry is there, by its own bytes
  pub there_in : (i : ℕ) → r.gate + 4 ≤ r.width → is_there r x i ≡ not (number_at (entry_at r x i) r.gate 4 == 0)
  there_in i inside = ap (λ (n : ℕ). not (n == 0)) (sym (number_within x (place_of r i) r.width r.gate 4 inside))

  -- how many are chosen does not depend on where the round begins
  pub chosen_round : (turn : ℕ) → turn ≤ r.count → length (chosen_at r choice x (order r turn)) ≡ length (chosen_at r choice x (range_with_len 0 r.count))
  chosen_round turn low =
      let high = range_with_len turn (r.count - turn) in
      let front = range_with_len 0 turn in
      let split : range_with_len 0 r.count ≡ front ++ range_with_len (0 + turn) (r.count - turn) =
      ap (range_with_len 0) (let e : r.count ≡ turn + (r.count - turn) = omega (arith, low) in e) ∙ range_add 0 turn (r.count - turn) in
      let whole : range_with_len 0 r.count ≡ front ++ high = split ∙ ap (λ (k : ℕ). front ++ range_with_len k (r.count - turn)) (let e : 0 + turn ≡ turn = omega arith in e) in
      let a = ap length (chosen_both high front) ∙ length-append (chosen_at r choice x high) (chosen_at r choice x front) in
      let b = ap (λ (l : List ℕ). length (chosen_at r choice x l)) whole ∙ ap length (chosen_both front high) ∙ length-append (chosen_at r choice x front) (chosen_at r choice x high) in
      omega (arith, a, b)

-- an index more
pub range_more : (from i : ℕ) → from ≤ i → range_with_len from (i + 1 - from) ≡ range_with_len from (i - from) ++ i ∷ []
range_more from i low =
    ap (range_with_len from) (let e : i + 1 - from ≡ (i - from) + 1 = omega (arith, low) in e) ∙ range_add from (i - from) 1
    ∙ ap (λ (k : ℕ). range_with_len from (i - from) ++ k ∷ []) (let e : from + (i - from) ≡ i = omega (arith, low) in e)

-- an insertion by the two times that are read of it
pub touching_first : (choice : Choice) (date : ℕ) (e : List ℕ) (r : Bool) (n : ℕ) → choice ≡ Touching date → r ≡ is_in_day date n → n ≡ number_at e 94 4 → r ≡ true → r ≡ chosen choice e
touching_first choice date e r n is tells number met =
    let first : is_in_day date (insertion_time e) ≡ true = ap (is_in_day date) (number_part insertion_widths 4 e (omega arith) ∙ sym number) ∙ sym tells ∙ met in
    met ∙ sym (ap (λ (c : Choice). chosen c e) is ∙ ap (λ (t : Bool). t || is_in_day date (withdrawal_time e)) first)

pub touching_next : (choice : Choice) (date : ℕ) (e : List ℕ) (r s : Bool) (n m : ℕ) → choice ≡ Touching date → r ≡ is_in_day date n → n ≡ number_at e 94 4 → r ≡ false → s ≡ is_in_day date m → m ≡ number_at e 102 4 → s ≡ chosen choice e
touching_next choice date e r s n m is tells number missed says other =
    let first : is_in_day date (insertion_time e) ≡ false = ap (is_in_day date) (number_part insertion_widths 4 e (omega arith) ∙ sym number) ∙ sym tells ∙ missed in
    says ∙ ap (is_in_day date) (other ∙ sym (number_part insertion_widths 7 e (omega arith)))
    ∙ sym (ap (λ (c : Choice). chosen c e) is ∙ ap (λ (t : Bool). t || is_in_day date (withdrawal_time e)) first)
