-- What is told by days, in the order of the days: that of a day, found by a search.
use Rattle.std.proofs.Common.{◌≡◌, ◌∙◌, ℕ, zero, suc, ◌+◌, ◌-◌, ◌<◌, ◌≤◌, ◌&&◌, not, Bool, true, false, List, [], ◌∷◌, length, get_or, take, drop, refl, sym, ap, arith, length-drop}
use Rattle.std.specs.Prelude.{◌==◌, nat_lt, filter, find, None, Option, Some, slice_get, if◌then◌else◌}
use Rattle.std.specs.List.Sorted.{IsNonDecreasingBy, IsStableByKey, ties}
use Rattle.std.specs.Ordering.{nat_cmp, is_lt}
use Rattle.std.proofs.lemmas.Bool.Decides.{nat_tests}
use Rattle.std.proofs.lemmas.List.{get_or-drop, get_or_default, at_drop_more, at_drop_all}
use Rattle.std.proofs.lemmas.List.Elements.{filter_agree}
use Rattle.activity_codec.proofs.ByTest.{by_test}

-- neither is earlier where they are the same
same_day : (a b : ℕ) → (not (is_lt (nat_cmp a b)) && not (is_lt (nat_cmp b a))) ≡ (b == a)
same_day a b = grind (arith, nat_tests)

earlier : (a b : ℕ) → a < b → (a == b) ≡ false
earlier a b lt = grind (arith, nat_tests)

later : (a b : ℕ) → b < a → (a == b) ≡ false
later a b lt = grind (arith, nat_tests)

equal : (a b : ℕ) → a ≡ b → (a == b) ≡ true
equal a b is = grind (arith, nat_tests)

differs : (a b : ℕ) → (a ≡ b → ⊥) → (a == b) ≡ false
differs a b other = grind (arith, nat_tests)

unequal : (a b : ℕ) → a ≤ b → (b == a) ≡ false → a < b
unequal a b le off = grind (arith, nat_tests)

module _ {X : Type 0} (day_of : X → ℕ) where
  -- those of a day, in their order
  abbrev pub on_day : ℕ → List X → List X
  on_day day xs = filter (λ x. day_of x == day) xs

  -- a stable sort by days leaves those of a day in their order
  pub stable_days : (xs ys : List X) → IsStableByKey day_of nat_cmp xs ys → (x : X) → on_day (day_of x) ys ≡ on_day (day_of x) xs
  stable_days xs ys stable x = sym (by_ties ys) ∙ stable x ∙ by_ties xs
    where
      by_ties : (zs : List X) → filter (ties (λ a b. is_lt (nat_cmp (day_of a) (day_of b))) x) zs ≡ on_day (day_of x) zs
      by_ties zs = filter_agree (ties (λ a b. is_lt (nat_cmp (day_of a) (day_of b))) x) (λ y. day_of y == day_of x) (λ y. same_day (day_of x) (day_of y)) zs

  -- the first of a day is the first of those of the day
  pub first_on : (day : ℕ) (xs : List X) → find (λ x. day_of x == day) xs ≡ slice_get (on_day day xs) 0
  first_on day [] = refl
  first_on day (x ∷ xs) = by_test (day_of x == day) (λ on. rw on refl) (λ off. rw off (first_on day xs))

  none_later : (day : ℕ) (xs : List X) → ((k : ℕ) (d : X) → k < length xs → day < day_of (get_or xs k d)) → on_day day xs ≡ []
  none_later day [] above = refl
  none_later day (x ∷ xs) above =
      let off : (day_of x == day) ≡ false = later (day_of x) day (above 0 x (omega arith)) in
      rw off (none_later day xs (λ k d low. above (suc k) d (omega (arith, low))))

  part_on : (day : ℕ) (xs : List X) (count : ℕ) → count ≤ length xs → ((k : ℕ) (d : X) → k < count → day_of (get_or xs k d) ≡ day)
      → ((k : ℕ) (d : X) → count ≤ k → k < length xs → day < day_of (get_or xs k d)) → take count xs ≡ on_day day xs
  part_on day xs zero most on above = sym (none_later day xs (λ k d low. above k d (omega arith) low))
  part_on day [] (suc count) most on above = absurd (omega (arith, most))
  part_on day (x ∷ xs) (suc count) most on above =
      let here : (day_of x == day) ≡ true = equal (day_of x) day (on 0 x (omega arith)) in
      rw here (ap (λ (l : List X). x ∷ l) (part_on day xs count (omega (arith, most)) (λ k d low. on (suc k) d (omega (arith, low))) (λ k d le low. above (suc k) d (omega (arith, le)) (omega (arith, low)))))

  behind_earlier : (day : ℕ) (xs : List X) (from : ℕ) → from ≤ length xs → ((k : ℕ) (d : X) → k < from → day_of (get_or xs k d) < day) → on_day day xs ≡ on_day day (drop from xs)
  behind_earlier day xs zero most before = refl
  behind_earlier day [] (suc from) most before = refl
  behind_earlier day (x ∷ xs) (suc from) most before =
      let off : (day_of x == day) ≡ false = earlier (day_of x) day (before 0 x (omega arith)) in
      rw off (behind_earlier day xs from (omega (arith, most)) (λ k d low. before (suc k) d (omega (arith, low))))

  -- those of a day stand between the first that is no earlier and the first that is later
  pub between : (day : ℕ) (xs : List X) (from count : ℕ) → from ≤ length xs → count ≤ length (drop from xs)
      → ((k : ℕ) (d : X) → k < from → day_of (get_or xs k d) < day) → ((k : ℕ) (d : X) → from ≤ k → k < length xs → day ≤ day_of (get_or xs k d))
      → ((k : ℕ) (d : X) → k < count → day_of (get_or (drop from xs) k d) ≤ day) → ((k : ℕ) (d : X) → count ≤ k → k < length (drop from xs) → day < day_of (get_or (drop from xs) k d))
      → take count (drop from xs) ≡ on_day day xs
  between day xs from count most few before since upto above =
      part_on day (drop from xs) count few
      (λ k d low.
      let least : day ≤ day_of (get_or (drop from xs) k d) = rw (get_or-drop from xs k d) (since (from + k) d (omega arith) (inside k low)) in
      omega (arith, least, upto k d low))
      above
      ∙ sym (behind_earlier day xs from most before)
    where
      inside : (k : ℕ) → k < count → from + k < length xs
      inside k low = omega (arith, length-drop from xs)

  -- the first of a day is the first that is no earlier, where that is of the day
  first_at : (day : ℕ) (xs : List X) (from : ℕ) (d : X) → IsNonDecreasingBy day_of xs → from < length xs → ((k : ℕ) (e : X) → k < from → day_of (get_or xs k e) < day)
      → ((k : ℕ) (e : X) → from ≤ k → k < length xs → day ≤ day_of (get_or xs k e)) → find (λ x. day_of x == day) xs ≡ (if day_of (get_or xs from d) == day then Some (get_or xs from d) else None)
  first_at day xs from d rise low before since =
      first_on day xs ∙ ap (λ (l : List X). slice_get l 0) (behind_earlier day xs from (omega arith) before ∙ at_drop_more (on_day day) xs from d low)
      ∙ by_test (day_of (get_or xs from d) == day)
      (λ on. rw on refl)
      (λ off.
      let above : day < day_of (get_or xs from d) = unequal day (day_of (get_or xs from d)) (since from d (omega arith) low) off in
      rw (off, none_later day (drop (from + 1) xs) (λ k e inside. later_still k e above inside)) refl)
    where
      later_still : (k : ℕ) (e : X) → day < day_of (get_or xs from d) → k < length (drop (from + 1) xs) → day < day_of (get_or (drop (from + 1) xs) k e)
      later_still k e above inside =
          let there : from + 1 + k < length xs = omega (arith, length-drop (from + 1) xs, inside) in
          let up = rise from (from + 1 + k) e (omega arith) there in
          rw (get_or-drop (from + 1) xs k e) (omega (arith, up, above, ap day_of (get_or_default xs from d e low)))

  -- and there is none where all are earlier
  pub none_at : (day : ℕ) (xs : List X) → ((k : ℕ) (e : X) → k < length xs → day_of (get_or xs k e) < day) → find (λ x. day_of x == day) xs ≡ None
  none_at day xs before = first_on day xs ∙ ap (λ (l : List X). slice_get l 0) (behind_earlier day xs (length xs) (omega arith) before ∙ at_drop_all (on_day day) xs (length xs) (omega arith))

  pub found_at : (day : ℕ) (xs : List X) (from : ℕ) (d : X) → IsNonDecreasingBy day_of xs → from < length xs → ((k : ℕ) (e : X) → k < from → day_of (get_or xs k e) < day)
      → ((k : ℕ) (e : X) → from ≤ k → k < length xs → day ≤ day_of (get_or xs k e)) → day_of (get_or xs from d) ≡ day → find (λ x. day_of x == day) xs ≡ Some (get_or xs from d)
  found_at day xs from d rise low before since is =
      let on : (day_of (get_or xs from d) == day) ≡ true = equal (day_of (get_or xs from d)) day is in
      first_at day xs from d rise low before since ∙ rw on refl

  pub lost_at : (day : ℕ) (xs : List X) (from : ℕ) (d : X) → IsNonDecreasingBy day_of xs → from < length xs → ((k : ℕ) (e : X) → k < from → day_of (get_or xs k e) < day)
      → ((k : ℕ) (e : X) → from ≤ k → k < length xs → day ≤ day_of (get_or xs k e)) → (day_of (get_or xs from d) ≡ day → ⊥) → find (λ x. day_of x == day) xs ≡ None
  lost_at day xs from d rise low before since other =
      let off : (day_of (get_or xs from d) == day) ≡ false = differs (day_of (get_or xs from d)) day other in
      first_at day xs from d rise low before since ∙ rw off refl
