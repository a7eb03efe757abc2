-- The day of the last-kept minute is closed before a new one is added.
use Rattle.std.proofs.Common.{◌≡◌, ◌≢◌, ◌⊎◌, inl, inr, ⊎_elim, ℕ, ◌+◌, ◌-◌, ◌*◌, ◌/◌, ◌%◌, ◌<◌, ◌≤◌, Bool, true, false, cond, List, [], ◌∷◌, ◌++◌, length, length-append, append_assoc, map, refl, sym, ◌∙◌, ap, subst, arith, lit≤}
use Rattle.std.specs.Prelude.{◌==◌}
use Rattle.std.specs.Int.{to_be_bytes, w16, w32}
use Rattle.std.proofs.lemmas.Bool.Decides.{nat_tests}
use Rattle.std.proofs.lemmas.List.{append-nil, length-map}
use Rattle.tach_media.specs.Medium.{SameOutside, IsPartlyWritten}
use Rattle.tach_media.proofs.Images.{put_outside, part_after}
use Rattle.gated_ring.specs.Ring.{number_at, pointer, is_there, entry_at, next, taken}
use Rattle.gated_ring.specs.Plans.{room_in}
use Rattle.unit_model.specs.declared.layout.TheConstants.{DAY_COUNT, DAY_SLOTS, DAY_SLOT_SIZE, DAY_WORDS, DAY_WORD_LIMIT, HIGHEST_ODOMETER, IMAGE_SIZE, LAST_KEPT, ODOMETER}
use Rattle.unit_model.specs.Days.{word_minute, bare, UnitMinute, ShownDay, StoredDay, day_of, days_shown, filled, Each, minute_by}
use Rattle.unit_model.specs.Changes.{changes, closing_words}
use Rattle.unit_model.specs.Image.{day_ring, slot_place, last_kept, odometer_at, unit_day, unit_days, spare_bytes, recorded, indices, slot_odometer, slot_words}
use Rattle.std.specs.List.{list_all}
use Rattle.std.proofs.lemmas.List.FromFn.{length-map-range_with_len}
use Rattle.unit_model.specs.Decoding.{word_checks}
use Rattle.unit_model.proofs.Checks.{passes, IsGood, still}
use Rattle.unit_model.proofs.StillDecodes.{counted_good}
use Rattle.unit_model.proofs.WordsGood.{changes_good, good_low}
use Rattle.unit_model.proofs.KeptDecodes.{behind_good, index_there, last_day as last_checks, put_odometer_good, odometer_decodes}
use Rattle.unit_minutes.specs.Coming.{Coming, IsComing}
use Rattle.unit_minutes.specs.Image.{Notes, IsNewestDay}
use Rattle.unit_minutes.specs.Keeping.{SameBesides, IsKeeping}
use Rattle.unit_minutes.proofs.Premises.{IsNoted}
use Rattle.unit_model.specs.Writing.{written, free_place, DiffersBehind, with_odometer, with_words}
use Rattle.unit_minutes.specs.DaysWith.{last_day_closed, begun_day, days_with, AreBetween}
use Rattle.unit_minutes.proofs.DaysWith.{with_last, with_next, closed_last, spare_front, spare_behind, spare_count}
use Rattle.unit_minutes.specs.Plans.{counted, closing, turning}
use Rattle.unit_minutes.proofs.Planned.{counted_put, counted_moment}
use Rattle.tach_media.specs.Plan.{put_all, IsPartway}
use Rattle.unit_model.proofs.Growth.{words_later, day_now}
use Rattle.unit_model.proofs.Commits.{next_day, closing_later, begun_is, begun_before, begun_at}
use Rattle.unit_model.proofs.Numbers.{number_before, number_put4}
use Rattle.unit_model.proofs.Slots.{day_at, all_days, SameButOne, same_taken, IsSlot, slot_days, slot_behind, slot_front, slot_counted, in_front, in_slot, same_indices}
use Rattle.unit_minutes.proofs.Besides.{before_first, before_mark, besides_then, besides_front, besides_days}
use Rattle.unit_model.proofs.Front.{HasOdometer, front_odometer, front_then}
use Rattle.unit_minutes.proofs.Behind.{behind_written}
use Rattle.unit_minutes.proofs.Keeping.{changes_few, changes_short}
use Rattle.unit_model.proofs.Recorded.{recorded_is}
use Rattle.unit_model.proofs.Turning.{ready_behind, ready_empty}
use Rattle.unit_minutes.proofs.Beginning.{IsClosed, each_push}

each_not_later : (a : ℕ) (days : List StoredDay) → Each (λ d. day_of d < a) days → Each (λ d. day_of d ≤ a) days
each_not_later a [] all = tt
each_not_later a (d ∷ days) all = (omega (arith, all.0), each_not_later a days all.1)

-- a write in front of the days, behind the last-kept minute
front_days : (x c : List ℕ) → SameOutside ODOMETER.place ODOMETER.size x c → unit_days c ≡ unit_days x
front_days x c same =
    let entries : (j : ℕ) → entry_at day_ring c j ≡ entry_at day_ring x j = λ j. part_after ODOMETER.place ODOMETER.size (slot_place j) DAY_SLOT_SIZE x c same (omega arith) in
    all_days c ∙ ap (map (day_at c)) (same_indices 0 x c (in_front 0 ODOMETER.place ODOMETER.size x c (omega arith) same)) ∙ (λ t. map (λ j. unit_day (entries j t)) (indices x)) ∙ sym (all_days x)

front_kept : (x c : List ℕ) → SameOutside ODOMETER.place ODOMETER.size x c → last_kept c ≡ last_kept x
unfolding last_kept
front_kept x c same = number_before ODOMETER.place ODOMETER.size LAST_KEPT.place LAST_KEPT.size x c same (omega arith)

front_recorded : (x c : List ℕ) → SameOutside ODOMETER.place ODOMETER.size x c → recorded c ≡ recorded x
front_recorded x c same =
    recorded_is c (last_kept x) (front_kept x c same) ∙ ap (days_shown (last_kept x)) (front_days x c same) ∙ sym (recorded_is x (last_kept x) refl)

-- the odometer, which is written first
odometer_kept : (it : UnitMinute) (odometer : ℕ) (x c : List ℕ) → length x ≡ IMAGE_SIZE → odometer ≤ HIGHEST_ODOMETER → IsPartlyWritten ODOMETER.place (to_be_bytes w32 odometer) x c → IsKeeping it odometer x c
odometer_kept it odometer x c sized far part = record {
  side = ⊎_elim
      (λ absent. before_first it odometer x c (ap last_kept absent, ap odometer_at absent) (front_recorded x c part.outside))
      (λ whole. before_mark it odometer x c (subst (HasOdometer odometer x) (sym whole) (front_odometer odometer x sized far)) (inl (front_recorded x c part.outside)))
      (part.whole (lit≤ tt));
  outside = besides_front ODOMETER.place ODOMETER.size x c (omega arith) (omega arith) part.outside;
  decodes = odometer_decodes odometer x c sized far part;
}

-- the room for a further day is the same
room_same : (i : ℕ) (x c : List ℕ) → SameButOne i x c → room_in day_ring c ≡ room_in day_ring x
room_same i x c same = λ t. record {
  last = same.pointer_is t;
  index = same_taken i x c same t;
  used = (same.there (taken day_ring c) ∙ ap (is_there day_ring x) (same_taken i x c same)) t;
}

other_next : (i : ℕ) → i < DAY_SLOTS → i ≢ next day_ring i
other_next i below = by (i + 1 == DAY_SLOTS) refl
  where
    eq_of : (a b : ℕ) → (a == b) ≡ true → a ≡ b
    eq_of a b is = grind (arith, nat_tests)

    by : (b : Bool) → (i + 1 == DAY_SLOTS) ≡ b → i ≢ cond b 0 (i + 1)
    by true last same = absurd (omega (arith, eq_of (i + 1) DAY_SLOTS last, same))
    by false more same = absurd (omega (arith, same))

module _ (j : Notes) (x : List ℕ) (noted : IsNoted j x) (coming : Coming) (fits : IsComing coming) (later : j.kept / 1440 < coming.minute / 1440) where
  abbrev m : ℕ
  m = coming.minute

  abbrev dn : ℕ
  dn = coming.bits.driver

  abbrev cn : ℕ
  cn = coming.bits.codriver

  abbrev odometer : ℕ
  odometer = coming.odometer

  abbrev k : ℕ
  k = j.kept

  abbrev it : UnitMinute
  it = minute_by m dn cn

  abbrev begun : StoredDay
  begun = begun_day coming

  abbrev x1 : List ℕ
  x1 = with_odometer odometer x

  its_day : 86400 * (m / 1440) / 86400 ≡ m / 1440
  its_day = omega arith

  x1_same : SameOutside ODOMETER.place ODOMETER.size x x1
  x1_same = put_outside ODOMETER.place (to_be_bytes w32 odometer) x (omega (arith, noted.sized))

  x1_sized : length x1 ≡ IMAGE_SIZE
  x1_sized = x1_same.same_length ∙ noted.sized

  x1_odometer : odometer_at x1 ≡ odometer
  unfolding odometer_at
  x1_odometer = number_put4 ODOMETER.place odometer x (omega (arith, noted.sized)) (omega (arith, fits.odometer))

  besides_1 : SameBesides x x1
  besides_1 = besides_front ODOMETER.place ODOMETER.size x x1 (omega arith) (omega arith) x1_same

  good_1 : IsGood x → IsGood x1
  good_1 = put_odometer_good odometer x noted.sized fits.odometer

  abbrev Moment : List ℕ → Type 0
  Moment c = IsKeeping it odometer x c × AreBetween coming x c

  abbrev Result : List ℕ → Type 0
  Result x2 = (known : pointer day_ring x2 < DAY_SLOTS) × IsClosed j.day_count k coming x x2 known

  -- no day yet
  module _ (none : k ≡ 0) where
    x_indices : indices x1 ≡ []
    x_indices = same_indices 0 x x1 (in_front 0 ODOMETER.place ODOMETER.size x x1 (omega arith) x1_same) ∙ noted.agrees.none none

    no_days : unit_days x1 ≡ []
    no_days = all_days x1 ∙ ap (map (day_at x1)) x_indices

    x1_known : pointer day_ring x1 < DAY_SLOTS
    x1_known = omega (arith, (in_front 0 ODOMETER.place ODOMETER.size x x1 (omega arith) x1_same).pointer_is, noted.agrees.pointer)

    x1_kept : last_kept x1 ≡ k
    x1_kept = front_kept x x1 x1_same ∙ noted.agrees.kept

    nothing : days_shown k (unit_days x1) ≡ recorded x
    nothing = sym (recorded_is x1 k x1_kept) ∙ front_recorded x x1 x1_same

    x_recorded : recorded x ≡ []
    x_recorded = sym nothing ∙ ap (days_shown k) no_days

    first_day : Result x1
    first_day = (
      x1_known,
      record {
        odometer_is = x1_odometer;
        sized = x1_sized;
        kept = x1_kept;
        kept_was = noted.agrees.kept;
        besides = besides_1;
        recorded_are = nothing;
        all_now = subst (Each (λ d. day_of d ≤ k / 1440)) (sym no_days) tt;
        commit =
            ap (λ (l : List StoredDay). days_shown m (l ++ begun ∷ [])) no_days ∙ day_now m begun its_day
            ∙ ap (λ (d : ShownDay). d ∷ []) (begun_is 0 m bare bare dn cn [] 0 0 [] tt refl tt refl refl fits.driver fits.codriver (86400 * (m / 1440)) odometer its_day (omega (arith, later))
            (begun_before 0 m bare bare dn cn [] 0 0 [] tt refl tt refl refl fits.driver fits.codriver (86400 * (m / 1440)) odometer its_day (omega (arith, later)))
            (begun_at 0 m bare bare dn cn [] 0 0 [] tt refl tt refl refl fits.driver fits.codriver (86400 * (m / 1440)) odometer its_day (omega (arith, later))))
            ∙ sym (ap (λ (l : List ShownDay). filled l it) x_recorded);
        written = ap (days_with (last_kept x) coming) (all_days x ∙ ap (map (day_at x)) (noted.agrees.none none)) ∙ sym (ap (λ (l : List StoredDay). l ++ begun ∷ []) no_days);
        closed_are = no_days ∙ sym (ap (last_day_closed (last_kept x)) (all_days x ∙ ap (map (day_at x)) (noted.agrees.none none)));
        room = room_same 0 x x1 (in_front 0 ODOMETER.place ODOMETER.size x x1 (omega arith) x1_same);
        spare = spare_front ODOMETER.place ODOMETER.size x x1 (omega arith) x1_same;
        ready = ready_empty x1 x1_known x_indices;
        days = ap length no_days ∙ sym (noted.ok.no_day none);
        good = good_1;
        today = inl (x1_kept ∙ none);
      },
    )

  -- a day that is closed
  module _ (some : 0 < k) where
    abbrev i : ℕ
    i = j.index

    abbrev n : ℕ
    n = j.count

    abbrev js : List ℕ
    js = (noted.agrees.newest some).0

    day : IsNewestDay j x js
    day = (noted.agrees.newest some).1

    abbrev date : ℕ
    date = 86400 * (k / 1440)

    abbrev o : ℕ
    o = slot_odometer x i

    abbrev older : List StoredDay
    older = map (day_at x) js

    abbrev words : List ℕ
    words = slot_words x i n

    abbrev p : ℕ
    p = pointer day_ring x

    few : n ≤ DAY_WORD_LIMIT
    few = omega (arith, noted.ok.count)

    date_day : date / 86400 ≡ k / 1440
    date_day = omega arith

    slot : IsSlot i js older p k date o n words x
    slot = record { sized = noted.sized; pointer_is = refl; kept = noted.agrees.kept; order_is = day.order_is; next_is = day.next_is; older_are = refl; date_is = day.date; odometer_is = refl; count_is = day.count; words_are = refl }

    slot_1 : IsSlot i js older p k date o n words x1
    slot_1 = slot_front i noted.ok.index js day.others older p k date o n few words x slot ODOMETER.place ODOMETER.size k x1 x1_same (omega arith) (front_kept x x1 x1_same ∙ noted.agrees.kept)

    abbrev cs : List ℕ
    cs = closing_words (k % 1440 + 1) j.bits.driver j.bits.codriver

    cs_later : Each (λ w. k % 1440 < word_minute w) cs
    cs_later = closing_later k m j.bits.driver j.bits.codriver dn cn older date o words day.earlier date_day day.low day.driver day.codriver fits.driver fits.codriver (86400 * (m / 1440)) odometer its_day later (k % 1440) (omega arith)

    abbrev last_day : StoredDay
    last_day = record { date = date; odometer = o; words = words ++ cs }

    x_days : recorded x ≡ days_shown k (older ++ record { date = date; odometer = o; words = words } ∷ [])
    x_days = recorded_is x k noted.agrees.kept ∙ ap (days_shown k) (slot_days i noted.ok.index js day.others older p k date o n few words x slot)

    -- the days of the image, and those before a further one
    abbrev now : StoredDay
    now = record { date = date; odometer = o; words = words }

    are_closed : last_day_closed (last_kept x) (unit_days x) ≡ older ++ last_day ∷ []
    are_closed = (λ t. last_day_closed (noted.agrees.kept t) (slot_days i noted.ok.index js day.others older p k date o n few words x slot t)) ∙ closed_last k older now
        ∙ (λ t. older ++ record { date = date; odometer = o; words = words ++ closing_words (k % 1440 + 1) (day.driver t) (day.codriver t) } ∷ [])

    room_1 : room_in day_ring x1 ≡ room_in day_ring x
    room_1 = room_same i x x1 (in_front i ODOMETER.place ODOMETER.size x x1 (omega arith) x1_same)

    -- from what stands in its slot
    of_slot : (n' : ℕ) (x2 : List ℕ) → n' ≤ DAY_WORD_LIMIT → IsSlot i js older p k date o n' (words ++ cs) x2 → SameBesides x x2 → odometer_at x2 ≡ odometer → ((q : ℕ) → spare_bytes x2 q ≡ spare_bytes x q) → room_in day_ring x2 ≡ room_in day_ring x → (IsGood x → IsGood x2) → Result x2
    of_slot n' x2 few' slot_2 besides_2 odometer_is spare room good =
        let known : pointer day_ring x2 < DAY_SLOTS = omega (arith, slot_2.pointer_is, noted.agrees.pointer) in
        let days : unit_days x2 ≡ older ++ last_day ∷ [] = slot_days i noted.ok.index js day.others older p k date o n' few' (words ++ cs) x2 slot_2 in (
          known,
          record {
            odometer_is = odometer_is;
            sized = slot_2.sized;
            kept = slot_2.kept;
            kept_was = noted.agrees.kept;
            besides = besides_2;
            recorded_are = ap (days_shown k) days ∙ words_later k older date o words cs date_day cs_later ∙ sym x_days;
            all_now = subst (Each (λ d. day_of d ≤ k / 1440)) (sym days) (each_push (λ d. day_of d ≤ k / 1440) older last_day (each_not_later (k / 1440) older day.earlier) (omega (arith, date_day)));
            commit =
                ap (λ (l : List StoredDay). days_shown m (l ++ begun ∷ [])) days
                ∙ next_day k m j.bits.driver j.bits.codriver dn cn older date o words day.earlier date_day day.low day.driver day.codriver fits.driver fits.codriver (86400 * (m / 1440)) odometer its_day later
                ∙ sym (ap (λ (l : List ShownDay). filled l it) x_days);
            written =
                (λ t. days_with (noted.agrees.kept t) coming (slot_days i noted.ok.index js day.others older p k date o n few words x slot t))
                ∙ with_last k coming older (record { date = date; odometer = o; words = words })
                ∙ ap (λ (l : List StoredDay). older ++ l) (with_next k coming (record { date = date; odometer = o; words = words }) (omega (arith, date_day, later))
                ∙ (λ t. record { date = date; odometer = o; words = words ++ closing_words (k % 1440 + 1) (day.driver t) (day.codriver t) } ∷ begun ∷ []))
                ∙ sym (append_assoc older (last_day ∷ []) (begun ∷ [])) ∙ sym (ap (λ (l : List StoredDay). l ++ begun ∷ []) days);
            closed_are = days ∙ sym are_closed;
            room = room;
            spare = spare;
            ready = ready_behind x2 known i day.dense.0 noted.ok.index day.dense.1 (slot_2.order_is ∙ ap (λ (l : List ℕ). l ++ i ∷ []) day.dense.2) slot_2.next_is;
            days = omega (arith, ap length days, length-append older (last_day ∷ []), length-map js (day_at x), day.days);
            good = good;
            today = inr (i, noted.ok.index, (λ same. other_next i noted.ok.index (same ∙ slot_2.next_is)), index_there x2 js i slot_2.order_is, omega (arith, slot_2.date_is, slot_2.kept));
          },
        )

    -- at 23:59 nothing is written
    at_end : k % 1440 + 1 ≡ 1440 → Result x1
    at_end is =
        let test : (k % 1440 + 1 == 1440) ≡ true = grind (arith, nat_tests, is) in
        let no_words : words ++ cs ≡ words = ap (λ (b : Bool). words ++ cond b [] (changes (k % 1440 + 1) j.bits.driver j.bits.codriver bare bare)) test ∙ append-nil words in
        of_slot n x1 few (subst (λ (l : List ℕ). IsSlot i js older p k date o n l x1) (sym no_words) slot_1) besides_1 x1_odometer (spare_front ODOMETER.place ODOMETER.size x x1 (omega arith) x1_same) room_1 good_1

    module _ (open_one : k % 1440 < 1439) where
      abbrev ws : List ℕ
      ws = changes (k % 1440 + 1) j.bits.driver j.bits.codriver bare bare

      is_open : (k % 1440 + 1 == 1440) ≡ false
      is_open = grind (arith, nat_tests)

      ws_few : length ws ≤ 2
      ws_few = changes_few (k % 1440 + 1) j.bits.driver j.bits.codriver bare bare

      room : n + length ws ≤ DAY_WORD_LIMIT
      room = omega (arith, noted.ok.count, ws_few, open_one)

      abbrev y : List ℕ
      y = written (free_place i n) ws x1

      abbrev x2 : List ℕ
      x2 = with_words i n ws x1

      behind : DiffersBehind i n x1 y
      behind = behind_written i n ws x1 noted.ok.index room x1_sized

      count_same : SameOutside (slot_place i + DAY_COUNT.place) DAY_COUNT.size y x2
      count_same = put_outside (slot_place i + DAY_COUNT.place) (to_be_bytes w16 (n + length ws)) y (omega (arith, noted.ok.index, behind.same_length, x1_sized))

      besides_y : SameBesides x y
      besides_y = besides_then x x1 y besides_1 (besides_days (free_place i n) (DAY_WORDS.size - 2 * n) x1 y (omega arith) (omega (arith, noted.ok.index, few)) behind)

      besides_2 : SameBesides x x2
      besides_2 = besides_then x y x2 besides_y (besides_days (slot_place i + DAY_COUNT.place) DAY_COUNT.size y x2 (omega arith) (omega (arith, noted.ok.index)) count_same)

      slot_2 : IsSlot i js older p k date o (n + length ws) (words ++ ws) x2
      slot_2 = slot_counted i noted.ok.index js day.others older p k date o n few words x1 slot_1 ws (changes_short (k % 1440 + 1) j.bits.driver j.bits.codriver bare bare (omega (arith, open_one)) (omega arith) (omega arith)) room

      odometer_2 : odometer_at x2 ≡ odometer
      unfolding odometer_at
      odometer_2 = number_before (slot_place i + DAY_COUNT.place) DAY_COUNT.size ODOMETER.place ODOMETER.size y x2 count_same (omega arith) ∙ number_before (free_place i n) (DAY_WORDS.size - 2 * n) ODOMETER.place ODOMETER.size x1 y behind (omega arith) ∙ number_put4 ODOMETER.place odometer x (omega (arith, noted.sized)) (omega (arith, fits.odometer))

      good_y : IsGood x → IsGood y
      good_y good = behind_good x1 y i n noted.ok.index few behind slot_1.count_is (good_1 good)

      good_2 : IsGood x → IsGood x2
      good_2 good =
          let last = last_checks x js i noted.ok.index day.order_is good in
          let place : ℕ = slot_place i + DAY_WORDS.place in
          let two : 2 ≤ n = omega (arith, last.low, day.count) in
          let checks : list_all passes (word_checks place [] words) ≡ true = ap (λ (a : ℕ). list_all passes (word_checks place [] (slot_words x i a))) (sym day.count) ∙ last.words in
          let length_is : length words ≡ n = length-map-range_with_len (λ a. number_at x (place + 2 * a) 2) 0 n in
          counted_good y x2 i noted.ok.index count_same (n + length ws) slot_2.count_is (omega (arith, two)) room
          (ap (λ (l : List ℕ). list_all passes (word_checks place [] l)) slot_2.words_are
          ∙ (changes_good place (k % 1440 + 1) j.bits.driver j.bits.codriver bare bare words (omega (arith, open_one)) (omega arith) (omega arith) (good_low place (k % 1440) (k % 1440 + 1) words checks (omega (arith, two, length_is)) day.low (omega arith))).checks) (good_y good)

      room_2 : room_in day_ring x2 ≡ room_in day_ring x
      room_2 = room_same i y x2 (in_slot i (slot_place i + DAY_COUNT.place) DAY_COUNT.size y x2 (omega arith) (omega arith) count_same) ∙ room_same i x1 y (in_slot i (free_place i n) (DAY_WORDS.size - 2 * n) x1 y (omega arith) (omega (arith, few)) behind) ∙ room_1

      pub in_day : Result x2
      in_day = of_slot (n + length ws) x2 room (subst (λ (b : Bool). IsSlot i js older p k date o (n + length ws) (words ++ cond b [] ws) x2) (sym is_open) slot_2) besides_2 odometer_2 (λ q. spare_count i y x2 count_same q ∙ spare_behind i n x1 y few behind q ∙ spare_front ODOMETER.place ODOMETER.size x x1 (omega arith) x1_same q) room_2 good_2

      same_recorded : (c : List ℕ) → IsSlot i js older p k date o n words c → recorded c ≡ recorded x
      same_recorded c at = recorded_is c k at.kept ∙ ap (days_shown k) (slot_days i noted.ok.index js day.others older p k date o n few words c at) ∙ sym x_days

      -- a moment before the count is written
      unmoved : (c : List ℕ) → DiffersBehind i n x1 c → AreBetween coming x c
      unmoved c writing = record {
        days = inl (slot_days i noted.ok.index js day.others older p k date o n few words c (slot_behind i noted.ok.index js day.others older p k date o n few words x1 slot_1 c writing) ∙ sym (slot_days i noted.ok.index js day.others older p k date o n few words x slot));
        side = inl ((slot_behind i noted.ok.index js day.others older p k date o n few words x1 slot_1 c writing).kept ∙ sym noted.agrees.kept);
        spare = λ q low. inl (spare_behind i n x1 c few writing q ∙ spare_front ODOMETER.place ODOMETER.size x x1 (omega arith) x1_same q);
      }

      has_1 : HasOdometer odometer x x1
      has_1 = front_odometer odometer x noted.sized fits.odometer

      has_y : HasOdometer odometer x y
      has_y = front_then odometer (free_place i n) (DAY_WORDS.size - 2 * n) x x1 y has_1 (omega arith) behind

      has_2 : HasOdometer odometer x x2
      has_2 = front_then odometer (slot_place i + DAY_COUNT.place) DAY_COUNT.size x y x2 has_y (omega arith) count_same

      closing_there : (c : List ℕ) → DiffersBehind i n x1 c ⊎ IsPartlyWritten (slot_place i + DAY_COUNT.place) (to_be_bytes w16 (n + length ws)) y c → Moment c
      closing_there c (inl writing) = (
        record {
          side = before_mark it odometer x c (front_then odometer (free_place i n) (DAY_WORDS.size - 2 * n) x x1 c has_1 (omega arith) writing) (inl (same_recorded c (slot_behind i noted.ok.index js day.others older p k date o n few words x1 slot_1 c writing)));
          outside = besides_then x x1 c besides_1 (besides_days (free_place i n) (DAY_WORDS.size - 2 * n) x1 c (omega arith) (omega (arith, noted.ok.index, few)) writing);
          decodes = still x c (λ good. behind_good x1 c i n noted.ok.index few writing slot_1.count_is (good_1 good));
        },
        unmoved c writing,
      )
      closing_there c (inr counting) = ⊎_elim
          (λ absent. subst Moment (sym absent) (
            record { side = before_mark it odometer x y has_y (inl (same_recorded y (slot_behind i noted.ok.index js day.others older p k date o n few words x1 slot_1 y behind))); outside = besides_y; decodes = still x y good_y },
            unmoved y behind,
          ))
          (λ whole. subst Moment (sym whole) (
            record { side = before_mark it odometer x x2 has_2 (inl (recorded_is x2 k slot_2.kept ∙ in_day.1.recorded_are)); outside = besides_2; decodes = still x x2 good_2 },
            record { days = inr (inr (omega (arith, noted.agrees.kept, later), inl in_day.1.closed_are)); side = inl (slot_2.kept ∙ sym noted.agrees.kept); spare = λ q low. inl (in_day.1.spare q) },
          ))
          (counting.whole (lit≤ tt))

  closing_moment : (c : List ℕ) → IsPartway (closing j) x1 c → Moment c
  closing_moment c = by (k == 0) refl (k % 1440 + 1 == 1440) refl
    where
      by : (a : Bool) → (k == 0) ≡ a → (b : Bool) → (k % 1440 + 1 == 1440) ≡ b → IsPartway (cond a [] (cond b [] (counted j.index j.count (changes (k % 1440 + 1) j.bits.driver j.bits.codriver bare bare)))) x1 c → Moment c
      by true none b is here = absurd here
      by false some true is here = absurd here
      by false some false is here =
          let more : k ≢ 0 = grind (arith, nat_tests, some) in
          let isnt : k % 1440 + 1 ≢ 1440 = grind (arith, nat_tests, is) in
          closing_there (omega (arith, more)) (omega (arith, isnt)) c (counted_moment j.index j.count (changes (k % 1440 + 1) j.bits.driver j.bits.codriver bare bare) x1 c noted.ok.index (room (omega (arith, more)) (omega (arith, isnt))) x1_sized here)

  -- a moment of the writes before the new day
  pub turning_moment : (c : List ℕ) → IsPartway (turning j odometer) x c → Moment c
  turning_moment c (inl first) = (odometer_kept it odometer x c noted.sized fits.odometer first, record { days = inl (front_days x c first.outside); side = inl (front_kept x c first.outside); spare = λ q low. inl (spare_front ODOMETER.place ODOMETER.size x c (omega arith) first.outside q) })
  turning_moment c (inr rest) = closing_moment c rest

  -- and what they leave
  pub is_turned : Result (put_all (turning j odometer) x)
  is_turned = by (k == 0) refl (k % 1440 + 1 == 1440) refl
    where
      by : (a : Bool) → (k == 0) ≡ a → (b : Bool) → (k % 1440 + 1 == 1440) ≡ b → Result (put_all (cond a [] (cond b [] (counted j.index j.count (changes (k % 1440 + 1) j.bits.driver j.bits.codriver bare bare)))) x1)
      by true none b is = first_day (grind (arith, nat_tests, none))
      by false some true is = let more : k ≢ 0 = grind (arith, nat_tests, some) in at_end (omega (arith, more)) (grind (arith, nat_tests, is))
      by false some false is =
          let more : k ≢ 0 = grind (arith, nat_tests, some) in
          let isnt : k % 1440 + 1 ≢ 1440 = grind (arith, nat_tests, is) in
          subst Result (sym (counted_put j.index j.count (changes (k % 1440 + 1) j.bits.driver j.bits.codriver bare bare) x1)) (in_day (omega (arith, more)) (omega (arith, isnt)))
