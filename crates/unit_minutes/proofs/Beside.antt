-- Writes beside the bytes that a journal reads leave what it needs.
use Rattle.std.proofs.Common.{◌≡◌, ◌⊎◌, inl, inr, ⊎_elim, ℕ, ◌+◌, ◌-◌, ◌*◌, ◌/◌, ◌%◌, ◌<◌, ◌≤◌, Bool, true, false, cond, List, [], ◌∷◌, ◌++◌, map, filter, Option, Some, None, refl, sym, ◌∙◌, ap, subst, arith}
use Rattle.std.specs.Prelude.{◌==◌, ◌&&◌, ◌||◌, nat_le, nat_lt, MatchOption}
use Rattle.std.specs.Option.{ForSome}
use Rattle.std.specs.List.{list_all, list_any, range_with_len}
use Rattle.std.proofs.lemmas.Bool.Decides.{nat_tests}
use Rattle.tach_media.specs.Medium.{SameOutside, bytes_at}
use Rattle.tach_media.proofs.Images.{part_before, part_after}
use Rattle.gated_ring.specs.Ring.{number_at, pointer, is_there, entry_at, next, order, taken, indices as ring_indices}
use Rattle.gated_ring.proofs.Orders as orders
use Rattle.gated_ring.proofs.Orders.{next_below, order_each, each_append, each_filter, range_each, filter_same, map_same}
use Rattle.unit_model.specs.declared.layout.TheConstants.{DAYS, DAY_COUNT, DAY_ODOMETER, DAY_SLOTS, DAY_SLOT_SIZE, DAY_WORDS, FIRST_OVER, INSERTIONS, LAST_KEPT, ODOMETER}
use Rattle.unit_model.specs.Days.{day_of, days_shown, state_at, word_minute, Each}
use Rattle.unit_model.specs.Image.{day_ring, slot_place, last_kept, odometer_at, unit_day, unit_days, recorded, indices, slot_date, slot_count, slot_words, words_at, stray_list}
use Rattle.unit_model.specs.Decoding.{Decodes, cell_check, cell_minute, cell_word, slot_checks, front_checks, has_day, is_pointer_good, is_last_good, are_dense, indices_before, is_date_good}
use Rattle.unit_minutes.specs.Beside.{SameJournal, PassesBeside}
use Rattle.unit_minutes.specs.Image.{Notes, IsNotes, IsNewestDay, Agrees, IsFound, IsFoundBy, IsFoundDay, IsStray}
use Rattle.unit_model.specs.Writing.{free_place}
use Rattle.unit_minutes.specs.Mends.{IsGateShut, IsMendable}
use Rattle.unit_model.proofs.Checks.{passes, and_split, IsGood, good_of, front_kept, front_today, front_odometer, front_split, front_join, rings_split, rings_join, still}
use Rattle.unit_model.proofs.Growth.{map_range_same}
use Rattle.unit_model.proofs.Recorded.{recorded_is}
use Rattle.unit_model.proofs.Numbers.{number_same, part_in}
use Rattle.unit_model.proofs.Slots.{day_at, all_days}
use Rattle.unit_model.proofs.StillDecodes.{slot_by, day_still}

-- a write beside them
pub beside : (a n : ℕ) (x c : List ℕ) → (a + n ≤ LAST_KEPT.place) ⊎ (((FIRST_OVER.place ≤ a) × (a + n ≤ DAYS.place)) ⊎ (INSERTIONS.place ≤ a)) → SameOutside a n x c → SameJournal x c
beside a n x c (inl low) same = record { front = part_after a n LAST_KEPT.place (LAST_KEPT.size + ODOMETER.size) x c same low; days = part_after a n DAYS.place DAYS.size x c same (omega (arith, low)); same_length = same.same_length }
beside a n x c (inr (inl mid)) same = record { front = part_before a n LAST_KEPT.place (LAST_KEPT.size + ODOMETER.size) x c same (omega (arith, mid.0)); days = part_after a n DAYS.place DAYS.size x c same mid.1; same_length = same.same_length }
beside a n x c (inr (inr high)) same = record { front = part_before a n LAST_KEPT.place (LAST_KEPT.size + ODOMETER.size) x c same (omega (arith, high)); days = part_before a n DAYS.place DAYS.size x c same (omega (arith, high)); same_length = same.same_length }

pub beside_then : (x y c : List ℕ) → SameJournal x y → SameJournal y c → SameJournal x c
beside_then x y c first next = record { front = next.front ∙ first.front; days = next.days ∙ first.days; same_length = next.same_length ∙ first.same_length }

all_below : (x : List ℕ) (js : List ℕ) → orders.Each (λ j. j < DAY_SLOTS) js → orders.Each (λ j. j < DAY_SLOTS) (filter (is_there day_ring x) js)
all_below x js all = each_filter (λ j. j < DAY_SLOTS) (is_there day_ring x) js all

in_list : (a b : List ℕ) (i : ℕ) → orders.Each (λ j. j < DAY_SLOTS) (a ++ i ∷ b) → i < DAY_SLOTS
in_list [] b i all = all.0
in_list (j ∷ a) b i all = in_list a b i all.1

two_below : (a b : List ℕ) (i : ℕ) → orders.Each (λ j. j < DAY_SLOTS) ((a ++ i ∷ []) ++ b) → i < DAY_SLOTS
two_below [] b i all = all.0
two_below (j ∷ a) b i all = two_below a b i all.1

any_same : (P Q : ℕ → Bool) (js : List ℕ) → orders.Each (λ j. Q j ≡ P j) js → list_any Q js ≡ list_any P js
any_same P Q [] all = refl
any_same P Q (j ∷ js) all = (λ t. all.0 t || list_any Q js) ∙ ap (λ (b : Bool). P j || b) (any_same P Q js all.1)

module _ (x c : List ℕ) (same : SameJournal x c) where
  -- numbers and words among the days
  part : (p n : ℕ) → DAYS.place ≤ p → p + n ≤ INSERTIONS.place → bytes_at c p n ≡ bytes_at x p n
  part p n low high =
      let q = p - DAYS.place in
      let is : DAYS.place + q ≡ p = omega (arith, low) in
      ap (λ (a : ℕ). bytes_at c a n) (sym is) ∙ sym (part_in c DAYS.place DAYS.size q n (omega (arith, low, high))) ∙ ap (λ (l : List ℕ). bytes_at l q n) same.days
      ∙ part_in x DAYS.place DAYS.size q n (omega (arith, low, high)) ∙ ap (λ (a : ℕ). bytes_at x a n) is

  number : (p n : ℕ) → DAYS.place ≤ p → p + n ≤ INSERTIONS.place → number_at c p n ≡ number_at x p n
  number p n low high = number_same x c p n (part p n low high)

  words : (p n : ℕ) → DAYS.place ≤ p → p + 2 * n ≤ INSERTIONS.place → words_at c p n ≡ words_at x p n
  words p n low high = map_range_same (λ j. number_at c (p + 2 * j) 2) (λ j. number_at x (p + 2 * j) 2) 0 n (λ j from to. number (p + 2 * j) 2 (omega (arith, low)) (omega (arith, high, to)))

  front : (q : ℕ) → q + 4 ≤ 8 → number_at c (LAST_KEPT.place + q) 4 ≡ number_at x (LAST_KEPT.place + q) 4
  front q le = number_same x c (LAST_KEPT.place + q) 4 (sym (part_in c LAST_KEPT.place (LAST_KEPT.size + ODOMETER.size) q 4 le) ∙ ap (λ (l : List ℕ). bytes_at l q 4) same.front ∙ part_in x LAST_KEPT.place (LAST_KEPT.size + ODOMETER.size) q 4 le)

  pub last_beside : last_kept c ≡ last_kept x
  unfolding last_kept
  last_beside = front 0 (omega arith)

  pub odometer_beside : odometer_at c ≡ odometer_at x
  unfolding odometer_at
  odometer_beside = front 4 (omega arith)

  pub pointer_beside : pointer day_ring c ≡ pointer day_ring x
  pointer_beside = number DAYS.place 4 (omega arith) (omega arith)

  entry : (j : ℕ) → j < DAY_SLOTS → entry_at day_ring c j ≡ entry_at day_ring x j
  entry j below = part (slot_place j) DAY_SLOT_SIZE (omega arith) (omega (arith, below))

  date : (j : ℕ) → j < DAY_SLOTS → slot_date c j ≡ slot_date x j
  date j below = number (slot_place j) 4 (omega arith) (omega (arith, below))

  there : (j : ℕ) → j < DAY_SLOTS → is_there day_ring c j ≡ is_there day_ring x j
  there j below = ap (λ (n : ℕ). Rattle.std.proofs.Common.not (n == 0)) (number (slot_place j + 0) 4 (omega arith) (omega (arith, below)))

  there_all : (js : List ℕ) → orders.Each (λ j. j < DAY_SLOTS) js → filter (is_there day_ring c) js ≡ filter (is_there day_ring x) js
  there_all js all = filter_same (is_there day_ring x) (is_there day_ring c) js (orders.each_weaker (λ j. j < DAY_SLOTS) (λ j. is_there day_ring c j ≡ is_there day_ring x j) js there all)

  has_beside : (day : ℕ) → has_day c day ≡ has_day x day
  has_beside day = any_same (λ i. is_there day_ring x i && slot_date x i / 86400 == day) (λ i. is_there day_ring c i && slot_date c i / 86400 == day) (range_with_len 0 DAY_SLOTS)
      (range_each (λ i. (is_there day_ring c i && slot_date c i / 86400 == day) ≡ (is_there day_ring x i && slot_date x i / 86400 == day)) 0 DAY_SLOTS (λ i low high. let below : i < DAY_SLOTS = omega (arith, high) in λ t. there i below t && date i below t / 86400 == day))

  -- where the pointer is an index
  module _ (known : pointer day_ring x < DAY_SLOTS) where
    abbrev p : ℕ
    p = pointer day_ring x

    turn_below : orders.Each (λ j. j < DAY_SLOTS) (order day_ring (next day_ring p))
    turn_below = order_each day_ring (next day_ring p) (next_below day_ring p known)

    each_below : orders.Each (λ j. j < DAY_SLOTS) (indices x)
    unfolding indices ring_indices
    each_below = all_below x (order day_ring (next day_ring p)) turn_below

    pub indices_beside : indices c ≡ indices x
    unfolding indices ring_indices
    indices_beside = (λ t. filter (is_there day_ring c) (order day_ring (next day_ring (pointer_beside t)))) ∙ there_all (order day_ring (next day_ring p)) turn_below

    pub taken_beside : taken day_ring c ≡ taken day_ring x
    taken_beside = (λ t. cond (is_there day_ring c (pointer_beside t)) (next day_ring (pointer_beside t)) (pointer_beside t)) ∙ (λ t. cond (there p known t) (next day_ring p) p)

    day_same : (j : ℕ) → j < DAY_SLOTS → day_at c j ≡ day_at x j
    day_same j below = ap unit_day (entry j below)

    -- the days, and which of them are recorded
    pub days_beside : unit_days c ≡ unit_days x
    days_beside = all_days c ∙ ap (map (day_at c)) indices_beside ∙ days_same (indices x) each_below ∙ sym (all_days x)
      where
        days_same : (js : List ℕ) → orders.Each (λ j. j < DAY_SLOTS) js → map (day_at c) js ≡ map (day_at x) js
        days_same js all = map_same (day_at x) (day_at c) js (orders.each_weaker (λ j. j < DAY_SLOTS) (λ j. day_at c j ≡ day_at x j) js day_same all)

    pub recorded_beside : recorded c ≡ recorded x
    recorded_beside = recorded_is c (last_kept x) last_beside ∙ ap (days_shown (last_kept x)) days_beside ∙ sym (recorded_is x (last_kept x) refl)

    -- what the notes say
    older_same : (P : Rattle.unit_model.specs.Days.StoredDay → Type 0) (a : List ℕ) (i : ℕ) → Each (λ j. (j < DAY_SLOTS) × (Rattle.std.proofs.Common.◌≢◌ j i)) a → Each P (map (λ j. unit_day (entry_at day_ring x j)) a) → Each P (map (λ j. unit_day (entry_at day_ring c j)) a)
    older_same P [] i below all = tt
    older_same P (j ∷ a) i below all = (subst P (sym (day_same j below.0.0)) all.0, older_same P a i below.1 all.1)

    newest_beside : (j : Notes) (older : List ℕ) → IsNewestDay j x older → IsNewestDay j c older
    newest_beside j older day =
        let below : j.index < DAY_SLOTS = in_list older [] j.index (subst (orders.Each (λ j. j < DAY_SLOTS)) day.order_is each_below) in
        let words_are : slot_words c j.index j.count ≡ slot_words x j.index j.count = words (slot_place j.index + DAY_WORDS.place) j.count (omega arith) (omega (arith, below, day.few)) in
        record {
          order_is = indices_beside ∙ day.order_is;
          next_is = taken_beside ∙ day.next_is;
          dense = day.dense;
          others = day.others;
          days = day.days;
          earlier = older_same (λ d. day_of d < j.kept / 1440) older j.index day.others day.earlier;
          date = date j.index below ∙ day.date;
          few = day.few;
          count = number (slot_place j.index + DAY_COUNT.place) 2 (omega arith) (omega (arith, below)) ∙ day.count;
          low = subst (Each (λ w. word_minute w ≤ j.kept % 1440)) (sym words_are) day.low;
          driver = ap (state_at 0 (j.kept % 1440)) words_are ∙ day.driver;
          codriver = ap (state_at 1 (j.kept % 1440)) words_are ∙ day.codriver;
        }

    found_day_beside : (j : Notes) (stray : Option ℕ) (stored : ℕ) (older : List ℕ) → IsFoundDay j stray stored x older → IsFoundDay j stray stored c older
    found_day_beside j stray stored older day =
        let below : j.index < DAY_SLOTS = two_below older (stray_list stray) j.index (subst (orders.Each (λ j. j < DAY_SLOTS)) day.order_is each_below) in
        let words_are : slot_words c j.index j.count ≡ slot_words x j.index j.count = words (slot_place j.index + DAY_WORDS.place) j.count (omega arith) (omega (arith, below, day.cut, day.stored_few)) in
        record {
          order_is = indices_beside ∙ day.order_is;
          next_is = next_beside stray day.next_is;
          dense = day.dense;
          others = day.others;
          days = day.days;
          earlier = older_same (λ d. day_of d < j.kept / 1440) older j.index day.others day.earlier;
          date = date j.index below ∙ day.date;
          count = number (slot_place j.index + DAY_COUNT.place) 2 (omega arith) (omega (arith, below)) ∙ day.count;
          cut = day.cut;
          stored_few = day.stored_few;
          low = subst (Each (λ w. word_minute w ≤ j.kept % 1440)) (sym words_are) day.low;
          late = subst (Each (λ w. j.kept % 1440 < word_minute w)) (sym (words (free_place j.index j.count) (stored - j.count) (omega arith) (omega (arith, below, day.cut, day.stored_few)))) day.late;
          driver = ap (state_at 0 (j.kept % 1440)) words_are ∙ day.driver;
          codriver = ap (state_at 1 (j.kept % 1440)) words_are ∙ day.codriver;
        }
      where
        next_beside : (s : Option ℕ) → MatchOption s (taken day_ring x ≡ next day_ring j.index) (λ s. s ≡ next day_ring j.index) → MatchOption s (taken day_ring c ≡ next day_ring j.index) (λ s. s ≡ next day_ring j.index)
        next_beside None is = taken_beside ∙ is
        next_beside (Some s) is = is

    stray_beside : (j : Notes) (stray : Option ℕ) → MatchOption stray (Unit {0}) (IsStray j x) → MatchOption stray (Unit {0}) (IsStray j c)
    stray_beside j None is = tt
    stray_beside j (Some s) is = record {
      below = is.below;
      at_pointer = pointer_beside ∙ is.at_pointer;
      later = subst (λ (d : Rattle.unit_model.specs.Days.StoredDay). j.kept / 1440 < day_of d) (sym (day_same s is.below)) is.later;
    }

  pub agrees_beside : (j : Notes) → Agrees j x → Agrees j c
  agrees_beside j agrees = record {
    kept = last_beside ∙ agrees.kept;
    odometer = odometer_beside ∙ agrees.odometer;
    pointer = omega (arith, pointer_beside, agrees.pointer);
    none = λ first. indices_beside agrees.pointer ∙ agrees.none first;
    newest = λ some. let day = agrees.newest some in (day.0, newest_beside agrees.pointer j day.0 day.1);
  }

  found_as : (j : Notes) (stray : Option ℕ) (stored : ℕ) → IsFound j stray stored x → IsFound j stray stored c
  found_as j stray stored found = record {
    kept = last_beside ∙ found.kept;
    odometer = odometer_beside ∙ found.odometer;
    pointer = omega (arith, pointer_beside, found.pointer);
    none = λ first. indices_beside found.pointer ∙ found.none first;
    newest = λ some. let day = found.newest some in (day.0, found_day_beside found.pointer j stray stored day.0 day.1);
    apart = stray_beside found.pointer j stray found.apart;
  }

  pub found_beside : (j : Notes) → IsFoundBy j x → IsFoundBy j c
  found_beside j found = found_as j j.stray j.stored found

  gate_beside : (stray : Option ℕ) → ForSome stray (λ s. s < DAY_SLOTS) → IsGateShut stray x → IsGateShut stray c
  gate_beside None below gate = tt
  gate_beside (Some s) below gate = part (slot_place s) 4 (omega arith) (omega (arith, below s refl)) ∙ gate

  pub mendable_beside : (j : Notes) → IsNotes j → IsMendable j x → IsMendable j c
  mendable_beside j ok (inl found) = inl (found_beside j found)
  mendable_beside j ok (inr (gate, inl found)) = inr (gate_beside j.stray ok.stray gate, inl (found_as j None j.stored found))
  mendable_beside j ok (inr (gate, inr found)) = inr (gate_beside j.stray ok.stray gate, inr (found_as j None j.count found))

  -- the image still decodes where what else is judged passes
  lt_true : (a b : ℕ) → a < b → nat_lt a b ≡ true
  lt_true a b is = grind (arith, nat_tests)

  front_good : PassesBeside c → IsGood x → list_all passes (front_checks c) ≡ true
  front_good ok good =
      front_join c (record {
        version = ok.version;
        rule = ok.rule;
        kept = omega (arith, last_beside, front_kept x good.front);
        today = (λ t. last_beside t == 0 || has_beside (last_beside t / 1440) t) ∙ front_today x good.front;
        odometer = omega (arith, odometer_beside, front_odometer x good.front);
        overs = ok.overs;
      })

  cell_good : PassesBeside c → (n : ℕ) → n < 32 → (cell_check c n).passes ≡ true
  cell_good ok n below = by (ok.cells n below)
    where
      or_true : (a b : Bool) → b ≡ true → (a || b) ≡ true
      or_true true b is = refl
      or_true false b is = is

      zero_true : (a : ℕ) → a ≡ 0 → (a == 0) ≡ true
      zero_true a is = grind (arith, nat_tests)

      by : (cell_minute c n ≡ 0) ⊎ (word_minute (cell_word c n) < 1440) → (cell_check c n).passes ≡ true
      by (inl empty) = ap (λ (b : Bool). b || nat_lt (word_minute (cell_word c n)) 1440) (zero_true (cell_minute c n) empty)
      by (inr low) = or_true (cell_minute c n == 0) (nat_lt (word_minute (cell_word c n)) 1440) (lt_true (word_minute (cell_word c n)) 1440 low)

  lt_of : (a b : ℕ) → nat_lt a b ≡ true → a < b
  lt_of a b is = grind (arith, nat_tests)

  last_same : (q : ℕ) (js : List ℕ) → orders.Each (λ j. j < DAY_SLOTS) js → is_last_good c q js ≡ is_last_good x q js
  last_same q [] below = refl
  last_same q (i ∷ []) below = λ t. nat_le (date i below.0 t / 86400) (last_beside t / 1440) || i == q
  last_same q (i ∷ j ∷ js) below = last_same q (j ∷ js) below.1

  point_good : is_pointer_good x ≡ true → is_pointer_good c ≡ true
  point_good good =
      let p = pointer day_ring x in
      let dense : Bool = are_dense (map (is_there day_ring x) (order day_ring (next day_ring p))) in
      let known : p < DAY_SLOTS = lt_of p DAY_SLOTS (and_split (nat_lt p DAY_SLOTS) (dense && is_last_good x p (indices x)) good).0 in
      (λ t. nat_lt (pointer_beside t) DAY_SLOTS && (are_dense (map (is_there day_ring c) (order day_ring (next day_ring (pointer_beside t)))) && is_last_good c (pointer_beside t) (indices_beside known t)))
      ∙ (λ t. nat_lt p DAY_SLOTS && (are_dense (map_same (is_there day_ring x) (is_there day_ring c) (order day_ring (next day_ring p)) (orders.each_weaker (λ j. j < DAY_SLOTS) (λ j. is_there day_ring c j ≡ is_there day_ring x j) (order day_ring (next day_ring p)) there (turn_below known)) t) && last_same p (indices x) (each_below known) t))
      ∙ good

  before_below : (i : ℕ) → i < DAY_SLOTS → (q : ℕ) → orders.Each (λ j. j < DAY_SLOTS) (cond (nat_le q i) (range_with_len q (i - q)) (range_with_len q (DAY_SLOTS - q) ++ range_with_len 0 i))
  before_below i below q = by (nat_le q i) refl
    where
      by : (b : Bool) → nat_le q i ≡ b → orders.Each (λ j. j < DAY_SLOTS) (cond b (range_with_len q (i - q)) (range_with_len q (DAY_SLOTS - q) ++ range_with_len 0 i))
      by true is = range_each (λ j. j < DAY_SLOTS) q (i - q) (λ j low high. omega (arith, low, high, below))
      by false is = each_append (λ j. j < DAY_SLOTS) (range_with_len q (DAY_SLOTS - q)) (range_with_len 0 i) (range_each (λ j. j < DAY_SLOTS) q (DAY_SLOTS - q) (λ j low high. omega (arith, low, high))) (range_each (λ j. j < DAY_SLOTS) 0 i (λ j low high. omega (arith, high, below)))

  before_same : (i : ℕ) → i < DAY_SLOTS → map (slot_date c) (indices_before c i) ≡ map (slot_date x) (indices_before x i)
  before_same i below =
      let q : ℕ = pointer day_ring x + 1 in
      let js : List ℕ = cond (nat_le q i) (range_with_len q (i - q)) (range_with_len q (DAY_SLOTS - q) ++ range_with_len 0 i) in
      (λ t. let r : ℕ = pointer_beside t + 1 in map (slot_date c) (filter (is_there day_ring c) (cond (nat_le r i) (range_with_len r (i - r)) (range_with_len r (DAY_SLOTS - r) ++ range_with_len 0 i))))
      ∙ ap (map (slot_date c)) (there_all js (before_below i below q))
      ∙ map_same (slot_date x) (slot_date c) (filter (is_there day_ring x) js) (orders.each_weaker (λ j. j < DAY_SLOTS) (λ j. slot_date c j ≡ slot_date x j) (filter (is_there day_ring x) js) date (all_below x js (before_below i below q)))

  slot_good : (i : ℕ) → i < DAY_SLOTS → list_all passes (slot_checks x i) ≡ true → list_all passes (slot_checks c i) ≡ true
  slot_good i below = slot_by x c i (there i below) (day_still x c i (λ t. is_date_good (last_beside t) (before_same i below t) (date i below t))
      (number (slot_place i + DAY_ODOMETER.place) DAY_ODOMETER.size (omega arith) (omega (arith, below))) (number (slot_place i + DAY_COUNT.place) DAY_COUNT.size (omega arith) (omega (arith, below)))
      (λ few. words (slot_place i + DAY_WORDS.place) (slot_count x i) (omega arith) (omega (arith, below, few))))

  good_beside : PassesBeside c → IsGood x → IsGood c
  good_beside ok good = record {
    front = front_good ok good;
    cells = cell_good ok;
    point = point_good good.point;
    slots = λ i below. slot_good i below (good.slots i below);
    rings = rings_join c (record { insertions = ok.insertions; places = ok.places; speeds = ok.speeds });
  }

  pub decodes_beside : PassesBeside c → Decodes x → Decodes c
  decodes_beside ok = still x c (good_beside ok)

-- what else is judged of an image that decodes
eq_of : (a b : ℕ) → (a == b) ≡ true → a ≡ b
eq_of a b is = grind (arith, nat_tests)

less_of : (a b : ℕ) → nat_lt a b ≡ true → a < b
less_of a b is = grind (arith, nat_tests)

either_true : (a b : Bool) → (a || b) ≡ true → (a ≡ true) ⊎ (b ≡ true)
either_true true b is = inl refl
either_true false b is = inr is

pub passes_beside : (x : List ℕ) → Decodes x → PassesBeside x
passes_beside x decodes =
    let good = good_of x decodes in
    let front = front_split x good.front in
    let rings = rings_split x good.rings in
    record {
      version = front.version;
      rule = front.rule;
      overs = front.overs;
      cells = λ n below. ⊎_elim
          (λ empty. inl (eq_of (cell_minute x n) 0 empty))
          (λ low. inr (less_of (word_minute (cell_word x n)) 1440 low))
          (either_true (cell_minute x n == 0) (nat_lt (word_minute (cell_word x n)) 1440) (good.cells n below));
      insertions = rings.insertions;
      places = rings.places;
      speeds = rings.speeds;
    }
