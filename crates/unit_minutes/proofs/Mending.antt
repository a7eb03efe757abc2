-- A later day is closed, and later words are cut off.
use Rattle.std.proofs.Common.{◌≡◌, ◌≢◌, ⊎_elim, ℕ, ◌+◌, ◌-◌, ◌*◌, ◌/◌, ◌%◌, ◌<◌, ◌≤◌, Bool, true, false, not, cond, List, [], ◌∷◌, ◌++◌, length, map, filter, replicate, refl, sym, ◌∙◌, ap, subst, arith, None}
use Rattle.std.specs.Prelude.{◌==◌}
use Rattle.std.specs.Int.{to_be_bytes, w16}
use Rattle.card_layout.specs.Images.{big_number}
use Rattle.std.proofs.lemmas.Bool.Decides.{nat_tests}
use Rattle.std.proofs.lemmas.Bool.{cases_lt}
use Rattle.std.proofs.lemmas.List.{map-append, append-nil}
use Rattle.tach_media.specs.Medium.{put, bytes_at, SameOutside}
use Rattle.tach_media.proofs.Images.{put_outside, part_before, part_after, part_put, outside_wider}
use Rattle.gated_ring.specs.Ring.{indices as ring_indices, number_at, pointer, is_there, entry_at, next, order, taken}
use Rattle.gated_ring.proofs.Orders as orders
use Rattle.gated_ring.proofs.Orders.{without_last}
use Rattle.unit_model.specs.declared.layout.TheConstants.{DAYS, DAY_COUNT, DAY_ODOMETER, DAY_SLOTS, DAY_SLOT_SIZE, DAY_WORDS, DAY_WORD_LIMIT, IMAGE_SIZE, LAST_KEPT, ODOMETER}
use Rattle.unit_model.specs.Days.{word_minute, state_at, StoredDay, day_of, days_shown, Each, days_kept}
use Rattle.unit_model.specs.Image.{day_ring, slot_place, last_kept, odometer_at, unit_day, unit_days, recorded, indices, slot_words, words_at, slot_odometer}
use Rattle.unit_model.specs.Writing.{free_place, with_count}
use Rattle.unit_minutes.specs.Image.{Notes, IsNotes, Agrees, IsFoundDay, IsFound}
use Rattle.unit_model.proofs.KeptDays.{kept_now}
use Rattle.unit_model.proofs.Checks.{IsGood}
use Rattle.unit_model.proofs.StillDecodes.{cut_good}
use Rattle.unit_model.proofs.Growth.{words_later, day_later}
use Rattle.unit_model.proofs.Words.{words_split}
use Rattle.unit_model.proofs.Numbers.{number_before, number_put2, words_after}
use Rattle.unit_model.proofs.Slots.{day_at, all_days, IsSlot, slot_days, same_indices, same_taken, same_days, in_slot}
use Rattle.unit_model.proofs.Recorded.{recorded_is}

-- a count that covers fewer words
module _ (i : ℕ) (below : i < DAY_SLOTS) (js : List ℕ) (others : Each (λ j. (j < DAY_SLOTS) × (j ≢ i)) js) (older : List StoredDay) (p k date o n n' : ℕ) (few : n ≤ DAY_WORD_LIMIT) (fewer : n' ≤ n) (words words' : List ℕ) (x : List ℕ)
    (slot : IsSlot i js older p k date o n words x) (front : slot_words x i n' ≡ words') where
  count_same : SameOutside (slot_place i + DAY_COUNT.place) DAY_COUNT.size x (with_count i n' x)
  count_same = put_outside (slot_place i + DAY_COUNT.place) (to_be_bytes w16 n') x (omega (arith, below, slot.sized))

  pub slot_cut : IsSlot i js older p k date o n' words' (with_count i n' x)
  unfolding last_kept
  slot_cut =
      let a = slot_place i + DAY_COUNT.place in
      let c = with_count i n' x in
      let but = in_slot i a 2 x c (omega arith) (omega arith) count_same in
      record {
        sized = count_same.same_length ∙ slot.sized;
        pointer_is = but.pointer_is ∙ slot.pointer_is;
        kept = number_before a 2 LAST_KEPT.place LAST_KEPT.size x c count_same (omega arith) ∙ slot.kept;
        order_is = same_indices i x c but ∙ slot.order_is;
        next_is = same_taken i x c but ∙ slot.next_is;
        older_are = same_days i x c js but others ∙ slot.older_are;
        date_is = number_before a 2 (slot_place i) 4 x c count_same (omega arith) ∙ slot.date_is;
        odometer_is = number_before a 2 (slot_place i + DAY_ODOMETER.place) DAY_ODOMETER.size x c count_same (omega arith) ∙ slot.odometer_is;
        count_is = number_put2 a n' x (omega (arith, below, slot.sized)) (omega (arith, few, fewer));
        words_are = words_after a 2 (slot_place i + DAY_WORDS.place) n' x c count_same (omega arith) ∙ front;
      }

each_into : (P : ℕ → Type 0) (js : List ℕ) → Each P js → orders.Each P js
each_into P [] all = tt
each_into P (j ∷ js) all = (all.0, each_into P js all.1)

-- the indices that are there, but for one
filter_but : (s : ℕ) (p q : ℕ → Bool) (js : List ℕ) → q s ≡ false → ((j : ℕ) → j ≢ s → q j ≡ p j) → filter q js ≡ filter (λ j. not (j == s)) (filter p js)
filter_but s p q [] off same = refl
filter_but s p q (j ∷ js) off same = by (filter_but s p q js off same) (j == s) refl
  where
    at : (b : Bool) → (j == s) ≡ true → filter (λ j. not (j == s)) (cond b (j ∷ filter p js) (filter p js)) ≡ filter (λ j. not (j == s)) (filter p js)
    at true is = ap (λ (t : Bool). cond (not t) (j ∷ filter (λ j. not (j == s)) (filter p js)) (filter (λ j. not (j == s)) (filter p js))) is
    at false is = refl

    away : (b : Bool) → (j == s) ≡ false → cond b (j ∷ filter (λ j. not (j == s)) (filter p js)) (filter (λ j. not (j == s)) (filter p js)) ≡ filter (λ j. not (j == s)) (cond b (j ∷ filter p js) (filter p js))
    away true isnt = sym (ap (λ (t : Bool). cond (not t) (j ∷ filter (λ j. not (j == s)) (filter p js)) (filter (λ j. not (j == s)) (filter p js))) isnt)
    away false isnt = refl

    by : filter q js ≡ filter (λ j. not (j == s)) (filter p js) → (b : Bool) → (j == s) ≡ b → filter q (j ∷ js) ≡ filter (λ j. not (j == s)) (filter p (j ∷ js))
    by rest true is =
        let same_index : j ≡ s = grind (arith, nat_tests, is) in
        ap (λ (t : Bool). cond t (j ∷ filter q js) (filter q js)) (ap q same_index ∙ off) ∙ rest ∙ sym (at (p j) is)
    by rest false isnt =
        let other : j ≢ s = grind (arith, nat_tests, isnt) in
        ap (λ (t : Bool). cond t (j ∷ filter q js) (filter q js)) (same j other) ∙ ap (λ (l : List ℕ). cond (p j) (j ∷ l) l) rest ∙ away (p j) isnt

-- the gate of a slot is shut
module _ (x : List ℕ) (sized : length x ≡ IMAGE_SIZE) (s : ℕ) (below : s < DAY_SLOTS) where
  abbrev c : List ℕ
  c = put (slot_place s) (replicate 4 0) x

  pub gate_outside : SameOutside (slot_place s) 4 x c
  gate_outside = put_outside (slot_place s) (replicate 4 0) x (omega (arith, below, sized))

  pub shut_pointer : pointer day_ring c ≡ pointer day_ring x
  shut_pointer = number_before (slot_place s) 4 DAYS.place 4 x c gate_outside (omega arith)

  pub shut_gate : is_there day_ring c s ≡ false
  shut_gate = ap (λ (n : ℕ). not (number_at c n 4 == 0)) (omega arith) ∙ ap (λ (b : List ℕ). not (big_number 4 b == 0)) (part_put (slot_place s) (replicate 4 0) x (omega (arith, below, sized)))

  pub other_there : (j : ℕ) → j ≢ s → is_there day_ring c j ≡ is_there day_ring x j
  other_there j other = ap (λ (b : List ℕ). not (big_number 4 b == 0)) (⊎_elim
      (λ less. part_before (slot_place s) 4 (slot_place j + 0) 4 x c gate_outside (omega (arith, less)))
      (λ more. let greater : s < j = omega (arith, more, other) in part_after (slot_place s) 4 (slot_place j + 0) 4 x c gate_outside (omega (arith, greater)))
      (cases_lt j s))

  pub other_entry : (j : ℕ) → j ≢ s → entry_at day_ring c j ≡ entry_at day_ring x j
  other_entry j other = ⊎_elim
      (λ less. part_before (slot_place s) 4 (slot_place j) DAY_SLOT_SIZE x c gate_outside (omega (arith, less)))
      (λ more. let greater : s < j = omega (arith, more, other) in part_after (slot_place s) 4 (slot_place j) DAY_SLOT_SIZE x c gate_outside (omega (arith, greater)))
      (cases_lt j s)

  pub shut_outside : SameOutside (slot_place 0) (DAYS.size - 4) x c
  shut_outside = outside_wider (slot_place 0) (DAYS.size - 4) (slot_place s) 4 x c gate_outside (omega arith) (omega (arith, below))

  pub shut_bytes : bytes_at c (slot_place s) 4 ≡ replicate 4 0
  shut_bytes = part_put (slot_place s) (replicate 4 0) x (omega (arith, below, sized))

  pub shut_kept : last_kept c ≡ last_kept x
  unfolding last_kept
  shut_kept = number_before (slot_place s) 4 LAST_KEPT.place LAST_KEPT.size x c gate_outside (omega arith)

  pub shut_odometer : odometer_at c ≡ odometer_at x
  unfolding odometer_at
  shut_odometer = number_before (slot_place s) 4 ODOMETER.place ODOMETER.size x c gate_outside (omega arith)

  pub shut_indices : (js : List ℕ) → indices x ≡ js ++ s ∷ [] → Each (λ j. j ≢ s) js → indices c ≡ js
  unfolding indices ring_indices
  shut_indices js is others =
      ap (λ (q : ℕ). filter (is_there day_ring c) (order day_ring (next day_ring q))) shut_pointer
      ∙ filter_but s (is_there day_ring x) (is_there day_ring c) (order day_ring (next day_ring (pointer day_ring x))) shut_gate other_there
      ∙ ap (filter (λ j. not (j == s))) is ∙ without_last s js (each_into (λ j. j ≢ s) js others)

  pub shut_days : (js : List ℕ) → Each (λ j. j ≢ s) js → map (day_at c) js ≡ map (day_at x) js
  shut_days [] others = refl
  shut_days (j ∷ js) others = ap (λ (e : List ℕ). unit_day e ∷ map (day_at c) js) (other_entry j others.0) ∙ ap (λ (l : List StoredDay). day_at x j ∷ l) (shut_days js others.1)

  -- the days are those before, without the last
  pub shut_unit_days : (js : List ℕ) → indices x ≡ js ++ s ∷ [] → Each (λ j. j ≢ s) js → unit_days x ≡ unit_days c ++ day_at x s ∷ []
  shut_unit_days js is others =
      all_days x ∙ ap (map (day_at x)) is ∙ map-append (day_at x) js (s ∷ [])
      ∙ ap (λ (l : List StoredDay). l ++ day_at x s ∷ []) (sym (all_days c ∙ ap (map (day_at c)) (shut_indices js is others) ∙ shut_days js others))

  -- and where it was later, no minute changes
  pub shut_recorded : (js : List ℕ) → indices x ≡ js ++ s ∷ [] → Each (λ j. j ≢ s) js → last_kept x / 1440 < day_of (day_at x s) → recorded c ≡ recorded x
  shut_recorded js is others later =
      recorded_is c (last_kept x) shut_kept
      ∙ sym (recorded_is x (last_kept x) refl ∙ ap (days_shown (last_kept x)) (shut_unit_days js is others) ∙ day_later (last_kept x) (unit_days c) (day_at x s) later)

  -- the next day takes this slot
  pub shut_taken : pointer day_ring x ≡ s → taken day_ring c ≡ s
  shut_taken at =
      let here : pointer day_ring c ≡ s = shut_pointer ∙ at in
      let off : is_there day_ring c (pointer day_ring c) ≡ false = ap (is_there day_ring c) here ∙ shut_gate in
      ap (λ (b : Bool). cond b (next day_ring (pointer day_ring c)) (pointer day_ring c)) off ∙ here

-- the day that was found, with all its words, is one with its count cut
module _ (j : Notes) (ok : IsNotes j) (stored : ℕ) (x : List ℕ) (sized : length x ≡ IMAGE_SIZE) (all : IsFound j None stored x) (some : 0 < j.kept) where
  abbrev js : List ℕ
  js = (all.newest some).0

  found : IsFoundDay j None stored x js
  found = (all.newest some).1

  abbrev i : ℕ
  i = j.index

  abbrev n : ℕ
  n = j.count

  abbrev date : ℕ
  date = 86400 * (j.kept / 1440)

  abbrev o : ℕ
  o = slot_odometer x i

  abbrev older : List StoredDay
  older = map (day_at x) js

  abbrev words : List ℕ
  words = slot_words x i n

  abbrev late : List ℕ
  late = words_at x (free_place i n) (stored - n)

  all_words : slot_words x i stored ≡ words ++ late
  all_words = let whole : n + (stored - n) ≡ stored = omega (arith, found.cut) in ap (slot_words x i) (sym whole) ∙ words_split x (slot_place i + DAY_WORDS.place) n (stored - n)

  date_day : date / 86400 ≡ j.kept / 1440
  date_day = omega arith

  slot : IsSlot i js older (pointer day_ring x) j.kept date o stored (words ++ late) x
  slot = record { sized = sized; pointer_is = refl; kept = all.kept; order_is = found.order_is ∙ append-nil (js ++ i ∷ []); next_is = found.next_is; older_are = refl; date_is = found.date; odometer_is = refl; count_is = found.count; words_are = all_words }

  abbrev y : List ℕ
  y = with_count i n x

  cut : IsSlot i js older (pointer day_ring x) j.kept date o n words y
  cut = slot_cut i ok.index js found.others older (pointer day_ring x) j.kept date o stored n found.stored_few found.cut (words ++ late) words x slot refl

  few : n ≤ DAY_WORD_LIMIT
  few = omega (arith, found.cut, found.stored_few)

  cut_same : SameOutside (slot_place i + DAY_COUNT.place) DAY_COUNT.size x y
  cut_same = put_outside (slot_place i + DAY_COUNT.place) (to_be_bytes w16 n) x (omega (arith, ok.index, sized))

  pub cut_outside : SameOutside (slot_place 0) (DAYS.size - 4) x y
  cut_outside = outside_wider (slot_place 0) (DAYS.size - 4) (slot_place i + DAY_COUNT.place) DAY_COUNT.size x y cut_same (omega arith) (omega (arith, ok.index))

  pub cut_still : IsGood x → IsGood y
  cut_still = cut_good x y i ok.index cut_same stored n (j.kept % 1440) found.cut found.count cut.count_is found.late

  -- the count's bytes are no gate's
  pub cut_gate : (s : ℕ) → bytes_at y (slot_place s) 4 ≡ bytes_at x (slot_place s) 4
  cut_gate s = ⊎_elim
      (λ less. part_after (slot_place i + DAY_COUNT.place) DAY_COUNT.size (slot_place s) 4 x y cut_same (omega (arith, less)))
      (λ more. part_before (slot_place i + DAY_COUNT.place) DAY_COUNT.size (slot_place s) 4 x y cut_same (omega (arith, more)))
      (cases_lt i s)

  -- the days with all their words, and with those that are not later
  all_days_are : unit_days x ≡ older ++ record { date = date; odometer = o; words = words ++ late } ∷ []
  all_days_are = slot_days i ok.index js found.others older (pointer day_ring x) j.kept date o stored found.stored_few (words ++ late) x slot

  kept_days_are : days_kept j.kept (unit_days x) ≡ older ++ record { date = date; odometer = o; words = words } ∷ []
  kept_days_are = ap (days_kept j.kept) all_days_are ∙ kept_now j.kept older date o words late date_day found.earlier found.low found.late

  pub cut_days : unit_days y ≡ days_kept j.kept (unit_days x)
  cut_days = slot_days i ok.index js found.others older (pointer day_ring x) j.kept date o n few words y cut ∙ sym kept_days_are

  pub cut_recorded : recorded y ≡ recorded x
  cut_recorded =
      recorded_is y j.kept cut.kept ∙ ap (days_shown j.kept) (slot_days i ok.index js found.others older (pointer day_ring x) j.kept date o n few words y cut)
      ∙ sym (words_later j.kept older date o words late date_day found.late)
      ∙ sym (recorded_is x j.kept all.kept ∙ ap (days_shown j.kept) (slot_days i ok.index js found.others older (pointer day_ring x) j.kept date o stored found.stored_few (words ++ late) x slot))

  pub cut_agrees : Agrees j y
  unfolding odometer_at
  cut_agrees = record {
    kept = cut.kept;
    odometer = number_before (slot_place i + DAY_COUNT.place) DAY_COUNT.size ODOMETER.place ODOMETER.size x y cut_same (omega arith) ∙ all.odometer;
    pointer = omega (arith, cut.pointer_is, all.pointer);
    none = λ zero_kept. absurd (omega (arith, some, zero_kept));
    newest = λ any. (
      js,
      record {
        order_is = cut.order_is;
        next_is = cut.next_is;
        dense = found.dense;
        others = found.others;
        days = found.days;
        earlier = subst (Each (λ d. day_of d < j.kept / 1440)) (sym cut.older_are) found.earlier;
        date = cut.date_is;
        few = omega (arith, found.cut, found.stored_few);
        count = cut.count_is;
        low = subst (Each (λ w. word_minute w ≤ j.kept % 1440)) (sym cut.words_are) found.low;
        driver = ap (state_at 0 (j.kept % 1440)) cut.words_are ∙ found.driver;
        codriver = ap (state_at 1 (j.kept % 1440)) cut.words_are ∙ found.codriver;
      },
    );
  }

  -- where nothing is to be cut
  pub uncut_days : stored ≡ n → unit_days x ≡ days_kept j.kept (unit_days x)
  uncut_days is =
      slot_days i ok.index js found.others older (pointer day_ring x) j.kept date o n few words x (record { sized = sized; pointer_is = refl; kept = all.kept; order_is = slot.order_is; next_is = slot.next_is; older_are = refl; date_is = found.date; odometer_is = refl; count_is = found.count ∙ is; words_are = refl })
      ∙ sym kept_days_are

  pub uncut_agrees : stored ≡ n → Agrees j x
  uncut_agrees is = record {
    kept = all.kept;
    odometer = all.odometer;
    pointer = all.pointer;
    none = λ zero_kept. absurd (omega (arith, some, zero_kept));
    newest = λ any. (
      js,
      record {
        order_is = slot.order_is;
        next_is = found.next_is;
        dense = found.dense;
        others = found.others;
        days = found.days;
        earlier = found.earlier;
        date = found.date;
        few = omega (arith, found.cut, found.stored_few);
        count = found.count ∙ is;
        low = found.low;
        driver = found.driver;
        codriver = found.codriver;
      },
    );
  }
