-- Lines with minutes in a row behind them.
use Rattle.std.proofs.Common.{◌≡◌, ◌∙◌, ℕ, suc, zero, ◌+◌, ◌-◌, ◌/◌, ◌≤◌, ◌&&◌, Bool, true, List, [], ◌∷◌, ◌++◌, length, get_or, set, map, refl, ap, sym, arith, append_assoc, add-zero}
use Rattle.std.specs.Prelude.{◌==◌, nat_le}
use Rattle.std.specs.List.{range_with_len}
use Rattle.std.proofs.lemmas.Bool.Decides.{nat_tests}
use Rattle.std.proofs.lemmas.List.FromFn.{map-range_with_len_more}
use Rattle.activity_codec.proofs.ByTest.{by_test}
use Rattle.view_model.specs.declared.Viewed.{Viewed}
use Rattle.view_model.specs.declared.Line.{Line}
use Rattle.view_model.specs.Lines.{day_of_minute, lines_of}
use Rattle.view_text.specs.Exact.{both}
use Rattle.view_text.specs.Growing.{follows, with_more}
use Rattle.view_text.proofs.More.{lines_of-more}
use Rattle.file_view.specs.Histories.{line_minutes}
use Rattle.file_view.specs.Runs.{is_run, with_last}

-- minutes in a row of which the same is shown
abbrev pub viewed : {X : Type 0} → X → ℕ → Viewed X
viewed shown k = record { minute = k; shown = shown }

abbrev pub row : {X : Type 0} → X → (first count : ℕ) → List (Viewed X)
row shown first count = map (viewed shown) (range_with_len first count)

pub equal : (a b : ℕ) → (a == b) ≡ true → a ≡ b
equal a b is = grind (arith, nat_tests)

same_number : (a : ℕ) → (a == a) ≡ true
same_number a = grind (arith, nat_tests)

pub at_most : (a b : ℕ) → nat_le a b ≡ true → a ≤ b
at_most a b is = grind (arith, nat_tests)

-- what is_run says
pub run_parts : (first last : ℕ) → is_run first last ≡ true → (first ≤ last) × (first / 1440 ≡ last / 1440)
run_parts first last is =
    let parts = both (nat_le first last) (day_of_minute first == day_of_minute last) is in
    (at_most first last parts.0, equal (day_of_minute first) (day_of_minute last) parts.1)

pub run_so : (first last : ℕ) → first ≤ last → first / 1440 ≡ last / 1440 → is_run first last ≡ true
run_so first last le day = let yes : nat_le first last ≡ true = grind (arith, nat_tests) in rw (yes, day, same_number (last / 1440)) refl

-- the last line shows this
abbrev EndsAs : {X : Type 0} → X → List (Line X) → Type 0
EndsAs shown [] = ⊥
EndsAs shown (line ∷ []) = line.shown ≡ shown
EndsAs shown (line ∷ next ∷ lines) = EndsAs shown (next ∷ lines)

ends_behind : {X : Type 0} → (shown : X) (line : Line X) (lines : List (Line X)) → EndsAs shown lines → EndsAs shown (line ∷ lines)
ends_behind shown line [] ends = absurd ends
ends_behind shown line (next ∷ lines) ends = ends

last_behind : {X : Type 0} → (last : ℕ) (shown : X) (line : Line X) (lines : List (Line X)) → EndsAs shown lines → with_last last (line ∷ lines) ≡ line ∷ with_last last lines
last_behind last shown line [] ends = absurd ends
last_behind last shown line (next ∷ lines) ends = refl

module _ {X : Type 0} (same : X → X → Bool) (exact : (one other : X) → same one other ≡ true → one ≡ other) where
  -- with a minute more the last line shows it, and ends with it
  more_ends : (lines : List (Line X)) (m : Viewed X) → EndsAs m.shown (with_more same lines m)
  more_ends [] m = refl
  more_ends (line ∷ []) m =
      by_test (follows same line m)
      (λ on. rw on (exact line.shown m.shown (both (line.last + 1 == m.minute && day_of_minute line.last == day_of_minute m.minute) (same line.shown m.shown) on).1))
      (λ off. rw off refl)
  more_ends (line ∷ next ∷ lines) m = ends_behind m.shown line (with_more same (next ∷ lines) m) (more_ends (next ∷ lines) m)

  more_last : (lines : List (Line X)) (m : Viewed X) → with_last m.minute (with_more same lines m) ≡ with_more same lines m
  more_last [] m = refl
  more_last (line ∷ []) m = by_test (follows same line m) (λ on. rw on refl) (λ off. rw off refl)
  more_last (line ∷ next ∷ lines) m =
      last_behind m.minute m.shown line (with_more same (next ∷ lines) m) (more_ends (next ∷ lines) m)
      ∙ ap (λ (l : List (Line X)). line ∷ l) (more_last (next ∷ lines) m)

  -- a line that ends with a minute goes on with the next one
  stretched : (k : ℕ) (shown : X) → same shown shown ≡ true → (lines : List (Line X)) → k / 1440 ≡ (k + 1) / 1440 → EndsAs shown lines
      → with_more same (with_last k lines) (viewed shown (k + 1)) ≡ with_last (k + 1) lines
  stretched k shown self [] day ends = absurd ends
  stretched k shown self (line ∷ []) day ends =
      let on : follows same (record { first = line.first; last = k; shown = line.shown }) (viewed shown (k + 1)) ≡ true =
      rw (same_number (k + 1), day, same_number ((k + 1) / 1440), ends, self) refl in
      rw on refl
  stretched k shown self (line ∷ next ∷ []) day ends = ap (λ (l : List (Line X)). line ∷ l) (stretched k shown self (next ∷ []) day ends)
  stretched k shown self (line ∷ next ∷ other ∷ lines) day ends = ap (λ (l : List (Line X)). line ∷ l) (stretched k shown self (next ∷ other ∷ lines) day ends)

  -- minutes in a row, within a day, go in at once
  run_more : (minutes : List (Viewed X)) (shown : X) → same shown shown ≡ true → (first n : ℕ) → first / 1440 ≡ (first + n) / 1440
      → lines_of same (minutes ++ row shown first (n + 1)) ≡ with_last (first + n) (lines_of same (minutes ++ viewed shown first ∷ []))
  run_more minutes shown self first zero day =
      let more = lines_of-more same exact minutes (viewed shown first) in
      more ∙ sym (more_last (lines_of same minutes) (viewed shown first)) ∙ ap (with_last first) (sym more)
      ∙ ap (λ (k : ℕ). with_last k (lines_of same (minutes ++ viewed shown first ∷ []))) (sym (add-zero first))
  run_more minutes shown self first (suc n) day =
      let begun = lines_of same (minutes ++ viewed shown first ∷ []) in
      let more = lines_of-more same exact minutes (viewed shown first) in
      let shows : EndsAs shown (lines_of same (minutes ++ viewed shown first ∷ [])) = rw more (more_ends (lines_of same minutes) (viewed shown first)) in
      let place : first + (n + 1) ≡ first + n + 1 = omega arith in
      let long : suc n + 1 ≡ n + 1 + 1 = omega arith in
      let next : first + n + 1 ≡ first + suc n = omega arith in
      ap (λ (k : ℕ). lines_of same (minutes ++ row shown first k)) long
      ∙ ap (λ (l : List (Viewed X)). lines_of same (minutes ++ l)) (map-range_with_len_more (viewed shown) first (n + 1) (first + n + 1) place)
      ∙ ap (λ (l : List (Viewed X)). lines_of same l) (sym (append_assoc minutes (row shown first (n + 1)) (viewed shown (first + n + 1) ∷ [])))
      ∙ lines_of-more same exact (minutes ++ row shown first (n + 1)) (viewed shown (first + n + 1))
      ∙ ap (λ (l : List (Line X)). with_more same l (viewed shown (first + n + 1))) (run_more minutes shown self first n (omega (arith, day)))
      ∙ stretched (first + n) shown self begun (omega (arith, day)) shows
      ∙ ap (λ (k : ℕ). with_last k begun) next

  pub run_added : (minutes : List (Viewed X)) (run : Line X) → is_run run.first run.last ≡ true → same run.shown run.shown ≡ true
      → with_last run.last (lines_of same (minutes ++ viewed run.shown run.first ∷ [])) ≡ lines_of same (minutes ++ line_minutes run)
  run_added minutes run is self =
      let parts = run_parts run.first run.last is in
      let end : run.first + (run.last - run.first) ≡ run.last = omega (arith, parts.0) in
      let long : run.last - run.first + 1 ≡ run.last + 1 - run.first = omega (arith, parts.0) in
      ap (λ (k : ℕ). with_last k (lines_of same (minutes ++ viewed run.shown run.first ∷ []))) (sym end)
      ∙ sym (run_more minutes run.shown self run.first (run.last - run.first) (parts.1 ∙ ap (λ (k : ℕ). k / 1440) (sym end)))
      ∙ ap (λ (k : ℕ). lines_of same (minutes ++ row run.shown run.first k)) long

-- the last line as it is set
pub last_set : {X : Type 0} → (lines : List (Line X)) (i : ℕ) (d : Line X) (last : ℕ) → length lines ≡ i + 1
    → set lines i (record { first = (get_or lines i d).first; last = last; shown = (get_or lines i d).shown }) ≡ with_last last lines
last_set [] i d last count = absurd (omega (arith, count))
last_set (line ∷ []) zero d last count = refl
last_set (line ∷ []) (suc i) d last count = absurd (omega (arith, count))
last_set (line ∷ next ∷ lines) zero d last count = absurd (omega (arith, count))
last_set (line ∷ next ∷ lines) (suc i) d last count = ap (λ (l : List (Line _)). line ∷ l) (last_set (next ∷ lines) i d last (omega (arith, count)))

pub last_of_none : {X : Type 0} → (last : ℕ) (lines : List (Line X)) → length lines ≡ 0 → lines ≡ with_last last lines
last_of_none last [] none = refl
last_of_none last (line ∷ lines) none = absurd (omega (arith, none))
