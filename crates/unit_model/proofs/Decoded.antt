-- What an image that decodes says.
use Rattle.std.proofs.Common.{◌≡◌, ℕ, zero, suc, ◌+◌, ◌/◌, ◌<◌, ◌≤◌, Bool, true, false, cond, List, [], ◌∷◌, ◌++◌, map, Option, Some, None, refl, sym, ◌∙◌, ap, arith, ⊎_elim}
use Rattle.std.specs.Prelude.{◌==◌, ◌&&◌, ◌||◌, nat_le, nat_lt, flat_map}
use Rattle.std.specs.List.{list_all, range_with_len}
use Rattle.std.proofs.lemmas.Bool.Decides.{nat_tests}
use Rattle.std.proofs.lemmas.Bool.{cases_lt}
use Rattle.gated_ring.specs.Ring.{pointer, is_there, next, order}
use Rattle.unit_model.specs.declared.layout.TheConstants.{DAYS, DAY_SLOTS, DAY_WORDS, DAY_WORD_LIMIT, HIGHEST_ODOMETER, LAST_KEPT, LAST_MINUTE, MOST_OVERS, ODOMETER, OVER_COUNT, RULE_BYTE, VERSION}
use Rattle.unit_model.specs.Image.{number_of, last_kept, odometer_at, day_ring, slot_place, slot_date, slot_count, slot_words, indices}
use Rattle.unit_model.specs.Decoding.{Check, check, is_version_good, is_rule_good, first_failing, front_checks, cell_checks, ring_checks, slot_checks, day_checks, word_checks, checks, first_bad_place, Decodes, has_day, is_pointer_good, is_last_good, are_dense, indices_before, is_date_good}
use Rattle.unit_model.specs.Decoding.{or_else}
use Rattle.unit_model.proofs.Failing.{failing_append}

none_append : (a b : List Check) → first_failing (a ++ b) ≡ None → (first_failing a ≡ None) × (first_failing b ≡ None)
none_append a b none = by (first_failing a) refl
  where
    by : (o : Option ℕ) → first_failing a ≡ o → (first_failing a ≡ None) × (first_failing b ≡ None)
    by None is = (is, sym (ap (λ (q : Option ℕ). or_else q (first_failing b)) is) ∙ sym (failing_append a b) ∙ none)
    by (Some p) is = let bad : Some p ≡ None = sym (ap (λ (q : Option ℕ). or_else q (first_failing b)) is) ∙ sym (failing_append a b) ∙ none in absurd (cc)

none_head : (c : Check) (cs : List Check) → first_failing (c ∷ cs) ≡ None → (c.passes ≡ true) × (first_failing cs ≡ None)
none_head c cs none = by c.passes refl
  where
    by : (b : Bool) → c.passes ≡ b → (c.passes ≡ true) × (first_failing cs ≡ None)
    by true is = (is, sym (ap (λ (b : Bool). cond b (first_failing cs) (Some c.place)) is) ∙ none)
    by false is = let bad : Some c.place ≡ None = sym (ap (λ (b : Bool). cond b (first_failing cs) (Some c.place)) is) ∙ none in absurd (cc)

none_flat : (f : ℕ → List Check) (from n : ℕ) → first_failing (flat_map f (range_with_len from n)) ≡ None → (i : ℕ) → from ≤ i → i < from + n → first_failing (f i) ≡ None
none_flat f from zero none i low high = absurd (omega (arith, low, high))
none_flat f from (suc n) none i low high =
    let both = none_append (f from) (flat_map f (range_with_len (from + 1) n)) none in
    ⊎_elim
    (λ later. none_flat f (from + 1) n both.1 i (omega (arith, later)) (omega (arith, high)))
    (λ here. ap (λ (k : ℕ). first_failing (f k)) (let e : i ≡ from = omega (arith, here, low) in e) ∙ both.0)
    (cases_lt from i)

pub record IsGoodSlot (x : List ℕ) (i : ℕ) : Type 0 where
  pub date : is_date_good (last_kept x) (map (slot_date x) (indices_before x i)) (slot_date x i) ≡ true
  pub count_low : 2 ≤ slot_count x i
  pub count_high : slot_count x i ≤ DAY_WORD_LIMIT
  pub words : first_failing (word_checks (slot_place i + DAY_WORDS.place) [] (slot_words x i (slot_count x i))) ≡ None

pub record IsDecoded (x : List ℕ) : Type 0 where
  pub kept : last_kept x ≤ LAST_MINUTE
  pub today : 0 < last_kept x → has_day x (last_kept x / 1440) ≡ true
  pub odometer : odometer_at x ≤ HIGHEST_ODOMETER
  pub known : pointer day_ring x < DAY_SLOTS
  pub dense : are_dense (map (is_there day_ring x) (order day_ring (next day_ring (pointer day_ring x)))) ≡ true
  pub last : is_last_good x (pointer day_ring x) (indices x) ≡ true
  pub slots : (i : ℕ) → i < DAY_SLOTS → is_there day_ring x i ≡ true → IsGoodSlot x i

both_true : (a b : Bool) → (a && b) ≡ true → (a ≡ true) × (b ≡ true)
both_true true b is = (refl, is)
both_true false b is = absurd (cc)

either_true : (a b : Bool) → (a || b) ≡ true → a ≡ false → b ≡ true
either_true true b is off = absurd (cc)
either_true false b is off = is

le_of : (a b : ℕ) → nat_le a b ≡ true → a ≤ b
le_of a b is = grind (arith, nat_tests)

lt_of : (a b : ℕ) → nat_lt a b ≡ true → a < b
lt_of a b is = grind (arith, nat_tests)

not_zero : (n : ℕ) → 0 < n → (n == 0) ≡ false
not_zero n some = grind (arith, nat_tests)

module _ (x : List ℕ) (none : first_bad_place x ≡ None) where
  abbrev C : List Check
  C = cell_checks x

  abbrev P : Check
  P = check DAYS.place (is_pointer_good x)

  abbrev S : List Check
  S = flat_map (slot_checks x) (range_with_len 0 DAY_SLOTS)

  abbrev R : List Check
  R = ring_checks x

  split : (first_failing (front_checks x) ≡ None) × (first_failing (C ++ (P ∷ (S ++ R))) ≡ None)
  unfolding checks first_bad_place
  split = none_append (front_checks x) (C ++ (P ∷ (S ++ R))) none

  behind : first_failing (P ∷ (S ++ R)) ≡ None
  behind = (none_append C (P ∷ (S ++ R)) split.1).1

  point : (is_pointer_good x ≡ true) × (first_failing (S ++ R) ≡ None)
  point = none_head P (S ++ R) behind

  good_slot : (i : ℕ) → i < DAY_SLOTS → is_there day_ring x i ≡ true → IsGoodSlot x i
  good_slot i below there =
      let all : first_failing (day_checks x i) ≡ None =
      sym (ap (λ (b : Bool). first_failing (cond b (day_checks x i) [])) there) ∙ none_flat (slot_checks x) 0 DAY_SLOTS (none_append S R point.1).0 i (omega arith) (omega (arith, below)) in
      let place = slot_place i in
      let words = word_checks (place + 16) [] (slot_words x i (slot_count x i)) in
      let c1 = check place (is_date_good (last_kept x) (map (slot_date x) (indices_before x i)) (slot_date x i)) in
      let c2 = check (place + 4) (nat_le (Rattle.unit_model.specs.Image.slot_odometer x i) HIGHEST_ODOMETER) in
      let c3 = check (place + 8) (nat_le 2 (slot_count x i) && nat_le (slot_count x i) DAY_WORD_LIMIT) in
      let date = none_head c1 (c2 ∷ c3 ∷ words) all in
      let odometer = none_head c2 (c3 ∷ words) date.1 in
      let count = none_head c3 words odometer.1 in
      let range = both_true (nat_le 2 (slot_count x i)) (nat_le (slot_count x i) DAY_WORD_LIMIT) count.0 in
      record { date = date.0; count_low = le_of 2 (slot_count x i) range.0; count_high = le_of (slot_count x i) DAY_WORD_LIMIT range.1; words = count.1 }

  pub decoded : IsDecoded x
  decoded =
      let c1 = check VERSION.place (is_version_good (number_of x VERSION)) in
      let cr = check RULE_BYTE.place (is_rule_good (number_of x VERSION) (number_of x RULE_BYTE)) in
      let c2 = check LAST_KEPT.place (nat_le (last_kept x) LAST_MINUTE && (last_kept x == 0 || has_day x (last_kept x / 1440))) in
      let c3 = check ODOMETER.place (nat_le (odometer_at x) HIGHEST_ODOMETER) in
      let c4 = check OVER_COUNT.place (nat_le (number_of x OVER_COUNT) MOST_OVERS) in
      let version = none_head c1 (cr ∷ c2 ∷ c3 ∷ c4 ∷ []) split.0 in
      let rule = none_head cr (c2 ∷ c3 ∷ c4 ∷ []) version.1 in
      let kept = none_head c2 (c3 ∷ c4 ∷ []) rule.1 in
      let odometer = none_head c3 (c4 ∷ []) kept.1 in
      let kept_is = both_true (nat_le (last_kept x) LAST_MINUTE) (last_kept x == 0 || has_day x (last_kept x / 1440)) kept.0 in
      let p = pointer day_ring x in
      let first = both_true (nat_lt p DAY_SLOTS) (are_dense (map (is_there day_ring x) (order day_ring (next day_ring p))) && is_last_good x p (indices x)) point.0 in
      let next_two = both_true (are_dense (map (is_there day_ring x) (order day_ring (next day_ring p)))) (is_last_good x p (indices x)) first.1 in
      record {
        kept = le_of (last_kept x) LAST_MINUTE kept_is.0;
        today = λ some. either_true (last_kept x == 0) (has_day x (last_kept x / 1440)) kept_is.1 (not_zero (last_kept x) some);
        odometer = le_of (odometer_at x) HIGHEST_ODOMETER odometer.0;
        known = lt_of p DAY_SLOTS first.0;
        dense = next_two.0;
        last = next_two.1;
        slots = good_slot;
      }

all_pass : (cs : List Check) → first_failing cs ≡ None → list_all (λ c. c.passes) cs ≡ true
all_pass [] none = refl
all_pass (c ∷ cs) none = let both = none_head c cs none in ap (λ (b : Bool). b && list_all (λ c. c.passes) cs) both.0 ∙ all_pass cs both.1

pub decodes_of : (x : List ℕ) → first_bad_place x ≡ None → Decodes x
unfolding first_bad_place Decodes
decodes_of x none = all_pass (checks x) none
