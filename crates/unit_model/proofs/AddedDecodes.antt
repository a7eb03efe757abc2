-- An image that decodes still does at each moment at which a new day is added.
use Rattle.std.proofs.Common.{◌≡◌, ◌≢◌, inl, inr, ⊎_elim, ℕ, zero, suc, ◌+◌, ◌-◌, ◌/◌, ◌%◌, ◌<◌, ◌≤◌, Bool, true, false, cond, List, [], ◌∷◌, ◌++◌, length, map, filter, refl, sym, ◌∙◌, ap, arith, append_assoc, length-append}
use Rattle.std.specs.Prelude.{◌⊎◌, ◌==◌, ◌&&◌, ◌||◌, nat_le, nat_lt}
use Rattle.std.specs.List.{list_all, list_any, range_with_len}
use Rattle.std.proofs.lemmas.Bool.Decides.{nat_tests}
use Rattle.std.proofs.lemmas.Bool.{cases_lt, cases_eq}
use Rattle.std.proofs.lemmas.List.{map-append}
use Rattle.gated_ring.specs.tach_media.Medium.{SameOutside}
use Rattle.gated_ring.specs.Ring.{number_at, pointer, is_there, entry_at, next, order, taken}
use Rattle.gated_ring.specs.Change.{IsShortened, IsExtended}
use Rattle.gated_ring.proofs.Listing.{staying_there}
use Rattle.gated_ring.proofs.Orders as orders
use Rattle.gated_ring.proofs.Orders.{rest, rest_each, order_first, order_last, each_append, each_weaker, each_filter, range_each, filter_same, map_same}
use Rattle.unit_model.specs.declared.layout.TheConstants.{DAYS, DAY_SLOTS, DAY_SLOT_SIZE, DAY_WORDS, HIGHEST_ODOMETER, INSERTIONS, LAST_MINUTE, OVER_COUNT, PLACES, RULE_BYTE, SPEEDS}
use Rattle.unit_model.specs.Days.{word_minute, day_of, Each}
use Rattle.unit_model.specs.Image.{last_kept, odometer_at, day_ring, slot_place, indices, slot_date, slot_odometer, slot_count, slot_words}
use Rattle.unit_model.specs.Decoding.{cell_place, slot_checks, slot_day, day_checks, has_day, is_last_good, are_dense, is_filled_on, indices_before, is_date_good, word_checks}
use Rattle.unit_model.specs.Writing.{behind_index}
use Rattle.unit_model.proofs.Numbers.{number_before, number_after, number_in}
use Rattle.unit_model.proofs.Slots.{day_at}
use Rattle.unit_model.proofs.Finding.{last_good_at}
use Rattle.unit_model.proofs.Turning.{others_of, taken_below}
use Rattle.unit_model.proofs.Checks.{passes, and_split, and_join, le_true, le_of, IsGood, front_by, rings_still}
use Rattle.unit_model.proofs.StillDecodes.{DayPasses, slot_by, day_join}
use Rattle.unit_model.proofs.KeptDecodes.{entry_as}

le_false : (a b : ℕ) → b < a → nat_le a b ≡ false
le_false a b less = grind (arith, nat_tests)

gt_of : (a b : ℕ) → nat_le a b ≡ false → b < a
gt_of a b isnt = grind (arith, nat_tests)

lt_true : (a b : ℕ) → a < b → nat_lt a b ≡ true
lt_true a b less = grind (arith, nat_tests)

same_true : (a : ℕ) → (a == a) ≡ true
same_true a = grind (arith, nat_tests)

pub eq_true : (a b : ℕ) → a ≡ b → (a == b) ≡ true
eq_true a b is = grind (arith, nat_tests)

zero_of : (n : ℕ) → (n == 0) ≡ true → n ≡ 0
zero_of n is_zero = grind (arith, nat_tests)

pub or_right : (a b : Bool) → b ≡ true → (a || b) ≡ true
or_right true b is = refl
or_right false b is = is

-- slots that stand close together do so without the oldest place, and with one place more behind one that is there
filled_dense : (bs : List Bool) → is_filled_on bs ≡ true → are_dense bs ≡ true
filled_dense [] is = refl
filled_dense (true ∷ bs) is = is
filled_dense (false ∷ []) is = refl
filled_dense (false ∷ b ∷ bs) is = let none : length (b ∷ bs) ≡ 0 = zero_of (length (b ∷ bs)) is in absurd (omega (arith, none))

dense_drop : (b : Bool) (bs : List Bool) → are_dense (b ∷ bs) ≡ true → are_dense bs ≡ true
dense_drop true bs is = filled_dense bs is
dense_drop false bs is = is

not_empty : (bs : List Bool) (b : Bool) → (length (bs ++ b ∷ []) == 0) ≡ true → ⊥
not_empty bs b is = let none : length (bs ++ b ∷ []) ≡ 0 = zero_of (length (bs ++ b ∷ [])) is in absurd (omega (arith, none, length-append bs (b ∷ [])))

filled_push : (bs : List Bool) (b : Bool) → is_filled_on (bs ++ true ∷ []) ≡ true → is_filled_on (bs ++ true ∷ b ∷ []) ≡ true
filled_push [] true is = refl
filled_push [] false is = refl
filled_push (true ∷ bs) b is = filled_push bs b is
filled_push (false ∷ bs) b is = absurd (not_empty bs true is)

dense_push : (bs : List Bool) (b : Bool) → are_dense (bs ++ true ∷ []) ≡ true → are_dense (bs ++ true ∷ b ∷ []) ≡ true
dense_push [] true is = refl
dense_push [] false is = refl
dense_push (true ∷ bs) b is = filled_push bs b is
dense_push (false ∷ bs) b is = dense_push bs b is

filled_fill : (bs : List Bool) (b : Bool) → is_filled_on (bs ++ false ∷ []) ≡ true → is_filled_on (bs ++ b ∷ []) ≡ true
filled_fill [] true is = refl
filled_fill [] false is = refl
filled_fill (true ∷ bs) b is = filled_fill bs b is
filled_fill (false ∷ bs) b is = absurd (not_empty bs false is)

dense_fill : (bs : List Bool) (b : Bool) → are_dense (bs ++ false ∷ []) ≡ true → are_dense (bs ++ b ∷ []) ≡ true
dense_fill [] true is = refl
dense_fill [] false is = refl
dense_fill (true ∷ bs) b is = filled_fill bs b is
dense_fill (false ∷ bs) b is = dense_fill bs b is

-- the indices before one, in the list's order
abbrev L : (q i : ℕ) → List ℕ
L q i = cond (nat_le (q + 1) i) (range_with_len (q + 1) (i - (q + 1))) (range_with_len (q + 1) (DAY_SLOTS - (q + 1)) ++ range_with_len 0 i)

in_before : (s i : ℕ) → i < DAY_SLOTS → s < DAY_SLOTS → (b : Bool) → nat_le (s + 1) i ≡ b → orders.Each (λ j. (j < DAY_SLOTS) × (j ≢ s)) (cond b (range_with_len (s + 1) (i - (s + 1))) (range_with_len (s + 1) (DAY_SLOTS - (s + 1)) ++ range_with_len 0 i))
in_before s i below s_below true is =
    let le : s + 1 ≤ i = le_of (s + 1) i is in
    range_each (λ j. (j < DAY_SLOTS) × (j ≢ s)) (s + 1) (i - (s + 1)) (λ j low high. (omega (arith, high, below, le), λ is_s. absurd (omega (arith, low, is_s))))
in_before s i below s_below false is =
    let low_i : i ≤ s = omega (arith, gt_of (s + 1) i is) in
    each_append (λ j. (j < DAY_SLOTS) × (j ≢ s)) (range_with_len (s + 1) (DAY_SLOTS - (s + 1))) (range_with_len 0 i)
    (range_each (λ j. (j < DAY_SLOTS) × (j ≢ s)) (s + 1) (DAY_SLOTS - (s + 1)) (λ j low high. (omega (arith, high, s_below), λ is_s. absurd (omega (arith, low, is_s)))))
    (range_each (λ j. (j < DAY_SLOTS) × (j ≢ s)) 0 i (λ j low high. (omega (arith, high, below), λ is_s. absurd (omega (arith, high, low_i, is_s)))))

-- the indices before one, where the pointer goes on by one
shift_on : (p j : ℕ) → p + 1 < DAY_SLOTS → j ≢ p + 1 → L p j ≡ (p + 1) ∷ L (p + 1) j
shift_on p j less other = by (nat_le (p + 1) j) refl
  where
    by : (b : Bool) → nat_le (p + 1) j ≡ b → cond b (range_with_len (p + 1) (j - (p + 1))) (range_with_len (p + 1) (DAY_SLOTS - (p + 1)) ++ range_with_len 0 j) ≡ (p + 1) ∷ L (p + 1) j
    by true is =
        let le : p + 1 ≤ j = le_of (p + 1) j is in
        let more : p + 1 + 1 ≤ j = omega (arith, le, other) in
        let len : j - (p + 1) ≡ suc (j - (p + 1 + 1)) = omega (arith, more) in
        ap (range_with_len (p + 1)) len
        ∙ sym (ap (λ (b : Bool). (p + 1) ∷ cond b (range_with_len (p + 1 + 1) (j - (p + 1 + 1))) (range_with_len (p + 1 + 1) (DAY_SLOTS - (p + 1 + 1)) ++ range_with_len 0 j)) (le_true (p + 1 + 1) j more))
    by false is =
        let gt : j < p + 1 = gt_of (p + 1) j is in
        let len : DAY_SLOTS - (p + 1) ≡ suc (DAY_SLOTS - (p + 1 + 1)) = omega (arith, less) in
        ap (λ (n : ℕ). range_with_len (p + 1) n ++ range_with_len 0 j) len
        ∙ sym (ap (λ (b : Bool). (p + 1) ∷ cond b (range_with_len (p + 1 + 1) (j - (p + 1 + 1))) (range_with_len (p + 1 + 1) (DAY_SLOTS - (p + 1 + 1)) ++ range_with_len 0 j)) (le_false (p + 1 + 1) j (omega (arith, gt))))

shift_round : (j : ℕ) → j < DAY_SLOTS → j ≢ 0 → L (DAY_SLOTS - 1) j ≡ 0 ∷ L 0 j
shift_round j below other =
    let off : nat_le DAY_SLOTS j ≡ false = le_false DAY_SLOTS j below in
    let on : nat_le 1 j ≡ true = le_true 1 j (omega (arith, other)) in
    let len : j ≡ suc (j - 1) = omega (arith, other) in
    ap (λ (b : Bool). cond b (range_with_len DAY_SLOTS (j - DAY_SLOTS)) (range_with_len 0 j)) off ∙ ap (range_with_len 0) len
    ∙ sym (ap (λ (b : Bool). 0 ∷ cond b (range_with_len 1 (j - 1)) (range_with_len 1 (DAY_SLOTS - 1) ++ range_with_len 0 j)) on)

shift : (p t j : ℕ) → p < DAY_SLOTS → t ≡ next day_ring p → j < DAY_SLOTS → j ≢ t → L p j ≡ t ∷ L t j
shift p t j known is below other = by (p + 1 == DAY_SLOTS) refl is
  where
    eq_of : (a b : ℕ) → (a == b) ≡ true → a ≡ b
    eq_of a b same = grind (arith, nat_tests)

    ne_of : (a b : ℕ) → (a == b) ≡ false → a ≢ b
    ne_of a b isnt = grind (arith, nat_tests)

    by : (b : Bool) → (p + 1 == DAY_SLOTS) ≡ b → t ≡ cond b 0 (p + 1) → L p j ≡ t ∷ L t j
    by true last t_is =
        let p_is : p ≡ (DAY_SLOTS - 1) = omega (arith, eq_of (p + 1) DAY_SLOTS last) in
        ap (λ (q : ℕ). L q j) p_is ∙ shift_round j below (λ zero_j. other (zero_j ∙ sym t_is)) ∙ sym (ap (λ (q : ℕ). q ∷ L q j) t_is)
    by false more t_is =
        let ne : p + 1 ≢ DAY_SLOTS = ne_of (p + 1) DAY_SLOTS more in
        shift_on p j (omega (arith, ne, known)) (λ at. other (at ∙ sym t_is)) ∙ sym (ap (λ (q : ℕ). q ∷ L q j) t_is)

-- a date is no worse without the first of those before it
date_less : (k : ℕ) (b : Bool) (d : ℕ) (before : List ℕ) (date : ℕ) → is_date_good k (cond b (d ∷ before) before) date ≡ true → is_date_good k before date ≡ true
date_less k false d before date all = all
date_less k true d before date all =
    let order : Bool = list_all (λ e. nat_lt e date) before in
    let late : Bool = nat_le (date / 86400) (k / 1440) || list_all (λ e. nat_le (e / 86400) (k / 1440)) before in
    let first = and_split (date % 86400 == 0) ((nat_lt d date && order) && (nat_le (date / 86400) (k / 1440) || (nat_le (d / 86400) (k / 1440) && list_all (λ e. nat_le (e / 86400) (k / 1440)) before))) all in
    let second = and_split (nat_lt d date && order) (nat_le (date / 86400) (k / 1440) || (nat_le (d / 86400) (k / 1440) && list_all (λ e. nat_le (e / 86400) (k / 1440)) before)) first.1 in
    and_join (date % 86400 == 0) (order && late) first.0
    (and_join order late (and_split (nat_lt d date) order second.0).1 (rest_of (nat_le (date / 86400) (k / 1440)) (nat_le (d / 86400) (k / 1440)) (list_all (λ e. nat_le (e / 86400) (k / 1440)) before) second.1))
  where
    rest_of : (a b c : Bool) → (a || (b && c)) ≡ true → (a || c) ≡ true
    rest_of true b c is = refl
    rest_of false true c is = is
    rest_of false false c is = absurd (cc)

-- a date of a later day
date_new : (k : ℕ) (before : List ℕ) (date : ℕ) → date % 86400 ≡ 0 → k / 1440 < date / 86400 → orders.Each (λ d. d / 86400 ≤ k / 1440) before → is_date_good k before date ≡ true
date_new k before date whole later each =
    let late : Bool = list_all (λ d. nat_le (d / 86400) (k / 1440)) before in
    and_join (date % 86400 == 0) (list_all (λ d. nat_lt d date) before && (nat_le (date / 86400) (k / 1440) || late)) (eq_true (date % 86400) 0 whole)
    (and_join (list_all (λ d. nat_lt d date) before) (nat_le (date / 86400) (k / 1440) || late) (all_of (λ d. nat_lt d date) (λ d le. lt_true d date (omega (arith, le, later))) before each)
    (or_right (nat_le (date / 86400) (k / 1440)) late (all_of (λ d. nat_le (d / 86400) (k / 1440)) (λ d le. le_true (d / 86400) (k / 1440) le) before each)))
  where
    all_of : (P : ℕ → Bool) → ((d : ℕ) → d / 86400 ≤ k / 1440 → P d ≡ true) → (ds : List ℕ) → orders.Each (λ d. d / 86400 ≤ k / 1440) ds → list_all P ds ≡ true
    all_of P holds [] all = refl
    all_of P holds (d ∷ ds) all = and_join (P d) (list_all P ds) (holds d all.0) (all_of P holds ds all.1)

each_map : (P : ℕ → Type 0) (f : ℕ → ℕ) (js : List ℕ) → orders.Each (λ j. P (f j)) js → orders.Each P (map f js)
each_map P f [] all = tt
each_map P f (j ∷ js) all = (all.0, each_map P f js all.1)

-- where no day is later, the last one is not
last_good_all : (c : List ℕ) (p : ℕ) (js : List ℕ) → orders.Each (λ j. slot_date c j / 86400 ≤ last_kept c / 1440) js → is_last_good c p js ≡ true
last_good_all c p [] all = refl
last_good_all c p (i ∷ []) all = ap (λ (b : Bool). b || i == p) (le_true (slot_date c i / 86400) (last_kept c / 1440) all.0)
last_good_all c p (i ∷ j ∷ js) all = last_good_all c p (j ∷ js) all.1

pub any_at : (P : ℕ → Bool) (a n i : ℕ) → a ≤ i → i < a + n → P i ≡ true → list_any P (range_with_len a n) ≡ true
any_at P a zero i low high holds = absurd (omega (arith, low, high))
any_at P a (suc n) i low high holds = ⊎_elim
    (λ later. or_right (P a) (list_any P (range_with_len (a + 1) n)) (any_at P (a + 1) n i (omega (arith, later)) (omega (arith, high)) holds))
    (λ here. let at : a ≡ i = omega (arith, here, low) in ap (λ (b : Bool). b || list_any P (range_with_len (a + 1) n)) (ap P at ∙ holds))
    (cases_lt a i)

map_cond : (f : ℕ → ℕ) (b : Bool) (d : ℕ) (js : List ℕ) → map f (cond b (d ∷ js) js) ≡ cond b (f d ∷ map f js) (map f js)
map_cond f true d js = refl
map_cond f false d js = refl

entry_date : (x : List ℕ) (j : ℕ) → number_at (entry_at day_ring x j) 0 4 ≡ slot_date x j
entry_date x j = number_in x (slot_place j) DAY_SLOT_SIZE 0 4 (omega arith) ∙ ap (λ (p : ℕ). number_at x p 4) (omega arith)

dates_each : (x : List ℕ) (a : ℕ) (js : List ℕ) → Each (λ d. day_of d ≤ a) (map (day_at x) js) → orders.Each (λ j. slot_date x j / 86400 ≤ a) js
dates_each x a [] all = tt
dates_each x a (j ∷ js) all = (omega (arith, all.0, entry_date x j), dates_each x a js all.1)

module _ (x c : List ℕ) (known : pointer day_ring x < DAY_SLOTS) (others : (j : ℕ) → j < DAY_SLOTS → j ≢ taken day_ring x → (entry_at day_ring c j ≡ entry_at day_ring x j) × (is_there day_ring c j ≡ is_there day_ring x j))
    (which : (pointer day_ring c ≡ pointer day_ring x) ⊎ (pointer day_ring c ≡ taken day_ring x)) (kept : last_kept c ≡ last_kept x) where
  abbrev t : ℕ
  t = taken day_ring x

  abbrev p : ℕ
  p = pointer day_ring x

  abbrev R : List ℕ
  R = behind_index t

  abbrev F : List ℕ
  F = others_of x

  abbrev Chosen : Type 0
  Chosen = ((is_there day_ring x p ≡ true) × (t ≡ next day_ring p)) ⊎ ((is_there day_ring x p ≡ false) × (t ≡ p))

  chosen : Chosen
  chosen = Rattle.gated_ring.proofs.Listing.taken_chosen day_ring x

  t_below : t < DAY_SLOTS
  t_below = taken_below x known

  abbrev Other : ℕ → Type 0
  Other j = (j < DAY_SLOTS) × (j ≢ t)

  there_each : (js : List ℕ) → orders.Each Other js → orders.Each (λ j. is_there day_ring c j ≡ is_there day_ring x j) js
  there_each js each = each_weaker Other (λ j. is_there day_ring c j ≡ is_there day_ring x j) js (λ j other. (others j other.0 other.1).1) each

  R_each : orders.Each Other R
  R_each = rest_each day_ring t t_below

  there_R : map (is_there day_ring c) R ≡ map (is_there day_ring x) R
  there_R = map_same (is_there day_ring x) (is_there day_ring c) R (there_each R R_each)

  date_same : (j : ℕ) → Other j → slot_date c j ≡ slot_date x j
  date_same j other = sym (entry_date c j) ∙ ap (λ (e : List ℕ). number_at e 0 4) (others j other.0 other.1).0 ∙ entry_date x j

  abbrev Dense : List ℕ → ℕ → Type 0
  Dense y q = are_dense (map (is_there day_ring y) (order day_ring (next day_ring q))) ≡ true

  -- where the pointer is that of the new place
  at_t : (b : Bool) → is_there day_ring c t ≡ b → are_dense (map (is_there day_ring x) R ++ b ∷ []) ≡ true → Dense c t
  at_t b is dense =
      ap (λ (js : List ℕ). are_dense (map (is_there day_ring c) js)) (order_last day_ring t t_below) ∙ ap are_dense (map-append (is_there day_ring c) R (t ∷ []))
      ∙ (λ i. are_dense (there_R i ++ is i ∷ [])) ∙ dense

  added_dense : (b : Bool) → is_there day_ring c t ≡ b → (b ≡ false) ⊎ (pointer day_ring c ≡ t) → Dense x p → Dense c (pointer day_ring c)
  added_dense b is turned dense = by chosen which turned
    where
      by : Chosen → (pointer day_ring c ≡ p) ⊎ (pointer day_ring c ≡ t) → (b ≡ false) ⊎ (pointer day_ring c ≡ t) → Dense c (pointer day_ring c)
      by (inr last) at turned_by =
          let before : are_dense (map (is_there day_ring x) R ++ false ∷ []) ≡ true =
          sym (ap (λ (js : List ℕ). are_dense (map (is_there day_ring x) js)) (ap (λ (q : ℕ). order day_ring (next day_ring q)) (sym last.1) ∙ order_last day_ring t t_below) ∙ ap are_dense (map-append (is_there day_ring x) R (t ∷ []))
          ∙ ap (λ (v : Bool). are_dense (map (is_there day_ring x) R ++ v ∷ [])) (ap (is_there day_ring x) last.1 ∙ last.0)) ∙ dense in
          let here : pointer day_ring c ≡ t = ⊎_elim (λ same. same ∙ sym last.1) (λ moved. moved) at in
          ap (λ (q : ℕ). are_dense (map (is_there day_ring c) (order day_ring (next day_ring q)))) here ∙ at_t b is (dense_fill (map (is_there day_ring x) R) b before)
      by (inl first) at turned_by =
          let B = rest day_ring p in
          let starts : order day_ring (next day_ring p) ≡ t ∷ R = ap (order day_ring) (sym first.1) ∙ order_first day_ring t t_below in
          let ends : map (is_there day_ring x) B ++ true ∷ [] ≡ is_there day_ring x t ∷ map (is_there day_ring x) R =
          ap (λ (v : Bool). map (is_there day_ring x) B ++ v ∷ []) (sym first.0) ∙ sym (map-append (is_there day_ring x) B (p ∷ [])) ∙ ap (map (is_there day_ring x)) (sym (order_last day_ring p known) ∙ starts) in
          let listed : are_dense (is_there day_ring x t ∷ map (is_there day_ring x) R) ≡ true = ap (λ (js : List ℕ). are_dense (map (is_there day_ring x) js)) (sym starts) ∙ dense in
          let longer : are_dense (is_there day_ring x t ∷ (map (is_there day_ring x) R ++ b ∷ [])) ≡ true =
          ap (λ (bs : List Bool). are_dense (bs ++ b ∷ [])) (sym ends) ∙ ap are_dense (append_assoc (map (is_there day_ring x) B) (true ∷ []) (b ∷ [])) ∙ dense_push (map (is_there day_ring x) B) b (ap are_dense ends ∙ listed) in
          let moved : pointer day_ring c ≡ t → Dense c (pointer day_ring c) = λ here.
          ap (λ (q : ℕ). are_dense (map (is_there day_ring c) (order day_ring (next day_ring q)))) here ∙ at_t b is (dense_drop (is_there day_ring x t) (map (is_there day_ring x) R ++ b ∷ []) longer) in
          ⊎_elim
          (λ same. ⊎_elim
          (λ shut.
          ap (λ (q : ℕ). are_dense (map (is_there day_ring c) (order day_ring (next day_ring q)))) same ∙ ap (λ (js : List ℕ). are_dense (map (is_there day_ring c) js)) starts
          ∙ (λ i. are_dense ((is ∙ shut) i ∷ there_R i)) ∙ dense_drop (is_there day_ring x t) (map (is_there day_ring x) R) listed)
          moved turned_by)
          moved at

  -- the indices before another slot
  abbrev X : ℕ → List ℕ
  X j = filter (is_there day_ring x) (L t j)

  L_each : (j : ℕ) → j < DAY_SLOTS → orders.Each Other (L t j)
  L_each j below = in_before t j below t_below (nat_le (t + 1) j) refl

  kept_X : (j : ℕ) → j < DAY_SLOTS → filter (is_there day_ring c) (L t j) ≡ X j
  kept_X j below = filter_same (is_there day_ring x) (is_there day_ring c) (L t j) (there_each (L t j) (L_each j below))

  before_x : (j : ℕ) → j < DAY_SLOTS → j ≢ t → Chosen → (b : Bool) × (indices_before x j ≡ cond b (t ∷ X j) (X j))
  before_x j below other (inl first) = (is_there day_ring x t, ap (filter (is_there day_ring x)) (shift p t j known first.1 below other))
  before_x j below other (inr last) = (false, ap (λ (q : ℕ). filter (is_there day_ring x) (L q j)) (sym last.1))

  before_c : (j : ℕ) → j < DAY_SLOTS → j ≢ t → (is_there day_ring c t ≡ false) ⊎ (pointer day_ring c ≡ t) → Chosen → (pointer day_ring c ≡ p) ⊎ (pointer day_ring c ≡ t) → indices_before c j ≡ X j
  before_c j below other turned taken_is (inr moved) = ap (λ (q : ℕ). filter (is_there day_ring c) (L q j)) moved ∙ kept_X j below
  before_c j below other turned (inr last) (inl same) = ap (λ (q : ℕ). filter (is_there day_ring c) (L q j)) (same ∙ sym last.1) ∙ kept_X j below
  before_c j below other (inr moved) (inl first) (inl same) = ap (λ (q : ℕ). filter (is_there day_ring c) (L q j)) moved ∙ kept_X j below
  before_c j below other (inl shut) (inl first) (inl same) =
      ap (λ (q : ℕ). filter (is_there day_ring c) (L q j)) same ∙ ap (filter (is_there day_ring c)) (shift p t j known first.1 below other)
      ∙ ap (λ (b : Bool). cond b (t ∷ filter (is_there day_ring c) (L t j)) (filter (is_there day_ring c) (L t j))) shut ∙ kept_X j below

  dates_X : (j : ℕ) → j < DAY_SLOTS → map (slot_date c) (X j) ≡ map (slot_date x) (X j)
  dates_X j below = map_same (slot_date x) (slot_date c) (X j) (each_filter (λ i. slot_date c i ≡ slot_date x i) (is_there day_ring x) (L t j) (each_weaker Other (λ i. slot_date c i ≡ slot_date x i) (L t j) date_same (L_each j below)))

  date_other : (j : ℕ) → j < DAY_SLOTS → j ≢ t → (is_there day_ring c t ≡ false) ⊎ (pointer day_ring c ≡ t)
      → is_date_good (last_kept x) (map (slot_date x) (indices_before x j)) (slot_date x j) ≡ true → is_date_good (last_kept c) (map (slot_date c) (indices_before c j)) (slot_date c j) ≡ true
  date_other j below other turned good =
      let before = before_x j below other chosen in
      (λ i. is_date_good (kept i) (map (slot_date c) (before_c j below other turned chosen which i)) (date_same j (below, other) i))
      ∙ ap (λ (ds : List ℕ). is_date_good (last_kept x) ds (slot_date x j)) (dates_X j below)
      ∙ date_less (last_kept x) before.0 (slot_date x t) (map (slot_date x) (X j)) (slot_date x j)
      (ap (λ (ds : List ℕ). is_date_good (last_kept x) ds (slot_date x j)) (sym (ap (map (slot_date x)) before.1 ∙ map_cond (slot_date x) before.0 t (X j))) ∙ good)

  slot_other : (j : ℕ) → j < DAY_SLOTS → j ≢ t → (is_there day_ring c t ≡ false) ⊎ (pointer day_ring c ≡ t) → list_all passes (slot_checks x j) ≡ true → list_all passes (slot_checks c j) ≡ true
  slot_other j below other turned = slot_by x c j (others j below other).1 (λ day. entry_as x c j (others j below other).0 (date_other j below other turned day.date) day)

  -- all but what stands in the slot that is taken
  all_good : SameOutside DAYS.place DAYS.size x c → (b : Bool) → is_there day_ring c t ≡ b → (b ≡ false) ⊎ (pointer day_ring c ≡ t) → is_last_good c (pointer day_ring c) (indices c) ≡ true
      → list_all passes (slot_checks c t) ≡ true → (last_kept c == 0 || has_day c (last_kept c / 1440)) ≡ true → last_kept c ≤ LAST_MINUTE → odometer_at c ≤ HIGHEST_ODOMETER → IsGood x → IsGood c
  all_good same b is turned last here today low far good =
      let a = nat_lt p DAY_SLOTS in
      let d = are_dense (map (is_there day_ring x) (order day_ring (next day_ring p))) in
      let l = is_last_good x p (indices x) in
      let dense : Dense x p = (and_split d l (and_split a (d && l) good.point).1).0 in
      let q = pointer day_ring c in
      let q_below : q < DAY_SLOTS = ⊎_elim (λ at. omega (arith, at, known)) (λ at. omega (arith, at, t_below)) which in
      let turned_c : (is_there day_ring c t ≡ false) ⊎ (q ≡ t) = ⊎_elim (λ shut. inl (is ∙ shut)) (λ moved. inr moved) turned in
      record {
        front = front_by x c (number_before DAYS.place DAYS.size 0 4 x c same (omega arith), number_before DAYS.place DAYS.size RULE_BYTE.place RULE_BYTE.size x c same (omega arith)) (number_before DAYS.place DAYS.size OVER_COUNT.place OVER_COUNT.size x c same (omega arith)) low far today good.front;
        cells = λ n below. (λ i. number_before DAYS.place DAYS.size (cell_place n) 4 x c same (omega (arith, below)) i == 0 || nat_lt (word_minute (number_before DAYS.place DAYS.size (cell_place n + 4) 2 x c same (omega (arith, below)) i)) 1440) ∙ good.cells n below;
        point = and_join (nat_lt q DAY_SLOTS) (are_dense (map (is_there day_ring c) (order day_ring (next day_ring q))) && is_last_good c q (indices c)) (lt_true q DAY_SLOTS q_below)
            (and_join (are_dense (map (is_there day_ring c) (order day_ring (next day_ring q)))) (is_last_good c q (indices c)) (added_dense b is turned dense) last);
        slots = λ j below. slot_at j below turned_c (good.slots j below) (cases_eq j t);
        rings = rings_still x c (number_after DAYS.place DAYS.size INSERTIONS.place 4 x c same (omega arith)) (number_after DAYS.place DAYS.size PLACES.place 4 x c same (omega arith)) (number_after DAYS.place DAYS.size SPEEDS.place 4 x c same (omega arith)) good.rings;
      }
    where
      slot_at : (j : ℕ) → j < DAY_SLOTS → (is_there day_ring c t ≡ false) ⊎ (pointer day_ring c ≡ t) → list_all passes (slot_checks x j) ≡ true → (j ≡ t) ⊎ (j ≢ t) → list_all passes (slot_checks c j) ≡ true
      slot_at j below turned_c good_j (inl at) = ap (λ (i : ℕ). list_all passes (slot_checks c i)) at ∙ here
      slot_at j below turned_c good_j (inr other) = slot_other j below other turned_c good_j

  -- a day of the last-kept minute that stays
  today_still : (last_kept x ≡ 0) ⊎ ((i : ℕ) × (i < DAY_SLOTS) × (i ≢ t) × (is_there day_ring x i ≡ true) × (slot_date x i / 86400 ≡ last_kept x / 1440)) → (last_kept c == 0 || has_day c (last_kept c / 1440)) ≡ true
  today_still (inl none) = ap (λ (b : Bool). b || has_day c (last_kept c / 1440)) (eq_true (last_kept c) 0 (kept ∙ none))
  today_still (inr (i, below, other, there, day)) =
      or_right (last_kept c == 0) (has_day c (last_kept c / 1440))
      (any_at (λ j. is_there day_ring c j && slot_day c j == last_kept c / 1440) 0 DAY_SLOTS i (omega arith) (omega (arith, below))
      (and_join (is_there day_ring c i) (slot_day c i == last_kept c / 1440) ((others i below other).1 ∙ there) (eq_true (slot_day c i) (last_kept c / 1440) (omega (arith, date_same i (below, other), day, kept)))))

  -- the oldest is gone, or none was there
  pub shut_good : SameOutside DAYS.place DAYS.size x c → IsShortened day_ring x c → Each (λ d. day_of d ≤ last_kept x / 1440) (map (day_at x) F)
      → (last_kept x ≡ 0) ⊎ ((i : ℕ) × (i < DAY_SLOTS) × (i ≢ t) × (is_there day_ring x i ≡ true) × (slot_date x i / 86400 ≡ last_kept x / 1440)) → last_kept c ≤ LAST_MINUTE → odometer_at c ≤ HIGHEST_ODOMETER → IsGood x → IsGood c
  unfolding indices
  shut_good same s days today low far good =
      let F_each : orders.Each Other F = each_filter Other (is_there day_ring x) R R_each in
      let now : orders.Each (λ j. slot_date c j / 86400 ≤ last_kept c / 1440) F = both_each F F_each (dates_each x (last_kept x / 1440) F days) in
      all_good same false s.shut (inl refl) (ap (is_last_good c (pointer day_ring c)) (s.indices_are ∙ staying_there day_ring x known) ∙ last_good_all c (pointer day_ring c) F now)
      (ap (λ (b : Bool). list_all passes (cond b (day_checks c t) [])) s.shut) (today_still today) low far good
    where
      both_each : (js : List ℕ) → orders.Each Other js → orders.Each (λ j. slot_date x j / 86400 ≤ last_kept x / 1440) js → orders.Each (λ j. slot_date c j / 86400 ≤ last_kept c / 1440) js
      both_each [] all low_all = tt
      both_each (j ∷ js) all low_all = (omega (arith, date_same j all.0, kept, low_all.0), both_each js all.1 low_all.1)

  -- the new day is there
  pub open_good : SameOutside DAYS.place DAYS.size x c → (head : List ℕ) → IsExtended day_ring head x c → Each (λ d. day_of d ≤ last_kept x / 1440) (map (day_at x) F)
      → (last_kept x ≡ 0) ⊎ ((i : ℕ) × (i < DAY_SLOTS) × (i ≢ t) × (is_there day_ring x i ≡ true) × (slot_date x i / 86400 ≡ last_kept x / 1440)) → last_kept c ≤ LAST_MINUTE → odometer_at c ≤ HIGHEST_ODOMETER
      → slot_date c t % 86400 ≡ 0 → last_kept x / 1440 < slot_date c t / 86400 → slot_odometer c t ≤ HIGHEST_ODOMETER → slot_count c t ≡ 2 → list_all passes (word_checks (slot_place t + DAY_WORDS.place) [] (slot_words c t 2)) ≡ true → IsGood x → IsGood c
  unfolding indices
  open_good same head e days today low far whole later odometer count words good =
      let F_each : orders.Each Other F = each_filter Other (is_there day_ring x) R R_each in
      let off : nat_le (t + 1) t ≡ false = le_false (t + 1) t (omega arith) in
      let before : indices_before c t ≡ F =
      ap (λ (q : ℕ). filter (is_there day_ring c) (L q t)) e.pointer_is ∙ ap (λ (b : Bool). filter (is_there day_ring c) (cond b (range_with_len (t + 1) (t - (t + 1))) R)) off
      ∙ filter_same (is_there day_ring x) (is_there day_ring c) R (there_each R R_each) in
      let dates : map (slot_date c) F ≡ map (slot_date x) F = map_same (slot_date x) (slot_date c) F (each_weaker Other (λ j. slot_date c j ≡ slot_date x j) F date_same F_each) in
      let date : is_date_good (last_kept c) (map (slot_date c) (indices_before c t)) (slot_date c t) ≡ true =
      (λ i. is_date_good (kept i) (map (slot_date c) (before i)) (slot_date c t)) ∙ ap (λ (ds : List ℕ). is_date_good (last_kept x) ds (slot_date c t)) dates
      ∙ date_new (last_kept x) (map (slot_date x) F) (slot_date c t) whole later (each_map (λ d. d / 86400 ≤ last_kept x / 1440) (slot_date x) F (dates_each x (last_kept x / 1440) F days)) in
      let day : DayPasses c t = record {
        date = date;
        odometer = le_true (slot_odometer c t) HIGHEST_ODOMETER odometer;
        low = omega (arith, count);
        high = omega (arith, count);
        words = ap (λ (n : ℕ). list_all passes (word_checks (slot_place t + DAY_WORDS.place) [] (slot_words c t n))) count ∙ words;
      } in
      all_good same true e.there (inr e.pointer_is)
      ((λ i. is_last_good c (e.pointer_is i) ((e.indices_are ∙ ap (λ (js : List ℕ). js ++ t ∷ []) (staying_there day_ring x known)) i)) ∙ last_good_at c t F t
      ∙ or_right (nat_le (slot_day c t) (last_kept c / 1440)) (t == t) (same_true t))
      (ap (λ (b : Bool). list_all passes (cond b (day_checks c t) [])) e.there ∙ day_join c t day) (today_still today) low far good

-- a day of the last-kept minute that stays while a new one is added
abbrev pub HasToday : List ℕ → Type 0
HasToday x = (last_kept x ≡ 0) ⊎ ((i : ℕ) × (i < DAY_SLOTS) × (i ≢ taken day_ring x) × (is_there day_ring x i ≡ true) × (slot_date x i / 86400 ≡ last_kept x / 1440))
