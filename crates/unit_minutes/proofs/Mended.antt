-- A `mend` changes no minute at any moment, leaves what `keep` needs, and may be done again.
use Rattle.std.proofs.Common.{◌≡◌, ◌≢◌, inl, inr, ⊎_elim, ℕ, ◌+◌, ◌-◌, ◌*◌, ◌/◌, ◌%◌, ◌<◌, ◌≤◌, Bool, true, false, cond, List, [], ◌∷◌, ◌++◌, length, map, refl, sym, ◌∙◌, ap, subst, arith, add-zero, lit≤, Option, Some, None}
use Rattle.std.specs.Prelude.{◌==◌, ◌||◌, ◌⊎◌, nat_le, nat_lt}
use Rattle.std.specs.Option.{ForSome}
use Rattle.std.proofs.lemmas.Bool.{cases_lt}
use Rattle.std.proofs.lemmas.Bool.Decides.{nat_tests}
use Rattle.std.proofs.lemmas.List.{append-nil}
use Rattle.tach_media.specs.Medium.{put, bytes_at, SameOutside}
use Rattle.tach_media.proofs.Images.{part_before, put_same, outside_same, outside_then}
use Rattle.gated_ring.specs.Ring.{number_at, pointer, entry_at}
use Rattle.unit_model.specs.declared.layout.TheConstants.{DAYS, DAY_COUNT, DAY_SLOTS, DAY_SLOT_SIZE, IMAGE_SIZE, LAST_KEPT, OWED, OWED_ROW_SIZE}
use Rattle.unit_model.specs.Days.{word_minute, day_of, Each, days_kept}
use Rattle.unit_model.specs.Decoding.{Decodes, cell_place, cell_minute, is_last_good}
use Rattle.unit_model.specs.Image.{day_ring, slot_place, last_kept, recorded, indices, unit_days, slot_date, slot_words, words_at}
use Rattle.unit_model.specs.Writing.{free_place, with_count}
use Rattle.unit_minutes.specs.Image.{Notes, IsNotes, Agrees, IsStray, IsFoundDay, IsFound}
use Rattle.unit_minutes.specs.Beside.{SameJournal}
use Rattle.unit_minutes.specs.DayOdometers.{RecordsDay}
use Rattle.unit_minutes.proofs.DayOdometers.{records-same, records-kept, records-cut}
use Rattle.unit_minutes.proofs.WrittenDays.{agreed-written}
use Rattle.unit_minutes.proofs.MendPlan.{IsMendStep}
use Rattle.unit_minutes.specs.Mends.{SameButRowsAndSlots, SameButMinutes, IsGateShut, IsMendable, IsMending, IsMended, notes_mended, shut, mended}
use Rattle.unit_model.specs.Cells.{minute_kept, cells_emptied}
use Rattle.unit_model.proofs.Numbers.{number_before, number_in, words_in}
use Rattle.unit_model.proofs.Slots.{day_at, all_days}
use Rattle.unit_minutes.proofs.Besides.{rows_outside, slots_outside, outside_both}
use Rattle.unit_model.proofs.KeptDays.{kept_later}
use Rattle.unit_model.proofs.Checks.{IsGood, le_true, good_of, good_decodes}
use Rattle.unit_model.proofs.StillDecodes.{rows_good, shut_good}
use Rattle.unit_model.proofs.Finding.{eq_of, last_good_at}
use Rattle.unit_model.proofs.Emptying.{IsEmptied, emptied}
use Rattle.unit_minutes.proofs.Beside.{beside, last_beside, recorded_beside, days_beside, mendable_beside}
use Rattle.unit_minutes.proofs.Mending.{gate_outside, shut_pointer, shut_gate, other_there, shut_outside, shut_bytes, shut_kept, shut_odometer, shut_indices, shut_days, shut_unit_days, shut_recorded, shut_taken, other_entry, cut_outside, cut_gate, cut_still, cut_recorded, cut_days, cut_agrees, uncut_days, uncut_agrees}
use Rattle.unit_minutes.proofs.Shown.{found_agreed}

each_apart : (x : List ℕ) (s a : ℕ) (js : List ℕ) → Each (λ d. day_of d < a) (map (day_at x) js) → a < day_of (day_at x s) → Each (λ j. j ≢ s) js
each_apart x s a [] all later = tt
each_apart x s a (j ∷ js) all later = ((λ same. absurd (omega (arith, all.0, later, ap (λ (n : ℕ). day_of (day_at x n)) same))), each_apart x s a js all.1 later)

each_push : (P : ℕ → Type 0) (js : List ℕ) (i : ℕ) → Each P js → P i → Each P (js ++ i ∷ [])
each_push P [] i all one = (one, tt)
each_push P (j ∷ js) i all one = (all.0, each_push P js i all.1 one)

module _ (x c : List ℕ) (i : ℕ) (same : entry_at day_ring c i ≡ entry_at day_ring x i) where
  entry_number : (q n : ℕ) → q + n ≤ DAY_SLOT_SIZE → number_at c (slot_place i + q) n ≡ number_at x (slot_place i + q) n
  entry_number q n le = sym (number_in c (slot_place i) DAY_SLOT_SIZE q n le) ∙ ap (λ (e : List ℕ). number_at e q n) same ∙ number_in x (slot_place i) DAY_SLOT_SIZE q n le

  entry_words : (q n : ℕ) → q + 2 * n ≤ DAY_SLOT_SIZE → words_at c (slot_place i + q) n ≡ words_at x (slot_place i + q) n
  entry_words q n le = sym (words_in c (slot_place i) DAY_SLOT_SIZE q n le) ∙ ap (λ (e : List ℕ). words_at e q n) same ∙ words_in x (slot_place i) DAY_SLOT_SIZE q n le

-- the later day is gone
module _ (j : Notes) (ok : IsNotes j) (stored : ℕ) (x : List ℕ) (sized : length x ≡ IMAGE_SIZE) (s : ℕ) (found : IsFound j (Some s) stored x) where
  abbrev c : List ℕ
  c = shut (Some s) x

  stray : IsStray j x s
  stray = found.apart

  day_found : (some : 0 < j.kept) → IsFoundDay j (Some s) stored x (found.newest some).0
  day_found some = (found.newest some).1

  not_it : 0 < j.kept → j.index ≢ s
  not_it some same =
      let date : number_at (entry_at day_ring x j.index) 0 4 ≡ 86400 * (j.kept / 1440) = number_in x (slot_place j.index) DAY_SLOT_SIZE 0 4 (omega arith) ∙ ap (λ (q : ℕ). number_at x q 4) (omega arith) ∙ (day_found some).date in
      absurd (omega (arith, ap (λ (n : ℕ). number_at (entry_at day_ring x n) 0 4) same, date, stray.later))

  others : (some : 0 < j.kept) → Each (λ n. n ≢ s) ((found.newest some).0 ++ j.index ∷ [])
  others some = each_push (λ n. n ≢ s) (found.newest some).0 j.index (each_apart x s (j.kept / 1440) (found.newest some).0 (day_found some).earlier stray.later) (not_it some)

  shut_found : IsFound j None stored c
  shut_found = record {
    kept = shut_kept x sized s stray.below ∙ found.kept;
    odometer = shut_odometer x sized s stray.below ∙ found.odometer;
    pointer = omega (arith, shut_pointer x sized s stray.below, found.pointer);
    none = λ zero_kept. shut_indices x sized s stray.below [] (found.none zero_kept) tt;
    newest = λ some.
        let js = (found.newest some).0 in
        let day = day_found some in
        let same = other_entry x sized s stray.below j.index (not_it some) in
        let date = entry_number x c j.index same 0 4 (omega arith) in (
          js,
          record {
            order_is = shut_indices x sized s stray.below (js ++ j.index ∷ []) day.order_is (others some) ∙ sym (append-nil (js ++ j.index ∷ []));
            next_is = shut_taken x sized s stray.below stray.at_pointer ∙ day.next_is;
            dense = day.dense;
            others = day.others;
            days = day.days;
            earlier = subst (Each (λ d. day_of d < j.kept / 1440)) (sym (shut_days x sized s stray.below js (each_apart x s (j.kept / 1440) js day.earlier stray.later))) day.earlier;
            date = ap (λ (q : ℕ). number_at c q 4) (omega arith) ∙ date ∙ ap (λ (q : ℕ). number_at x q 4) (omega arith) ∙ day.date;
            count = entry_number x c j.index same DAY_COUNT.place DAY_COUNT.size (lit≤ tt) ∙ day.count;
            cut = day.cut;
            stored_few = day.stored_few;
            low = subst (Each (λ w. Rattle.unit_model.specs.Days.word_minute w ≤ j.kept % 1440)) (sym (words_same same)) day.low;
            late = subst (Each (λ w. j.kept % 1440 < Rattle.unit_model.specs.Days.word_minute w)) (sym (late_same same day)) day.late;
            driver = ap (Rattle.unit_model.specs.Days.state_at 0 (j.kept % 1440)) (words_same same) ∙ day.driver;
            codriver = ap (Rattle.unit_model.specs.Days.state_at 1 (j.kept % 1440)) (words_same same) ∙ day.codriver;
          },
        );
    apart = tt;
  }
    where
      words_same : entry_at day_ring c j.index ≡ entry_at day_ring x j.index → slot_words c j.index j.count ≡ slot_words x j.index j.count
      words_same same = entry_words x c j.index same 16 j.count (omega (arith, ok.count))

      late_same : entry_at day_ring c j.index ≡ entry_at day_ring x j.index → {older : List ℕ} → IsFoundDay j (Some s) stored x older
          → words_at c (free_place j.index j.count) (stored - j.count) ≡ words_at x (free_place j.index j.count) (stored - j.count)
      late_same same day =
          ap (λ (q : ℕ). words_at c q (stored - j.count)) (omega arith)
          ∙ entry_words x c j.index same (16 + 2 * j.count) (stored - j.count) (omega (arith, day.cut, day.stored_few))
          ∙ ap (λ (q : ℕ). words_at x q (stored - j.count)) (omega arith)

  shut_same : recorded c ≡ recorded x
  shut_same = elim (Rattle.std.proofs.lemmas.Bool.cases_lt 0 j.kept) as (λ v. recorded c ≡ recorded x) [
    | inl some ↦ shut_recorded x sized s stray.below ((found.newest some).0 ++ j.index ∷ []) (day_found some).order_is (others some) (omega (arith, found.kept, stray.later))
    | inr none ↦ shut_recorded x sized s stray.below [] (found.none (omega (arith, none))) tt (omega (arith, found.kept, stray.later))
  ]

  pub shut_kept_days : days_kept j.kept (unit_days c) ≡ days_kept j.kept (unit_days x)
  shut_kept_days = elim (Rattle.std.proofs.lemmas.Bool.cases_lt 0 j.kept) as (λ v. days_kept j.kept (unit_days c) ≡ days_kept j.kept (unit_days x)) [
    | inl some ↦ gone ((found.newest some).0 ++ j.index ∷ []) (day_found some).order_is (others some)
    | inr none ↦ gone [] (found.none (omega (arith, none))) tt
  ]
    where
      gone : (js : List ℕ) → indices x ≡ js ++ s ∷ [] → Each (λ n. n ≢ s) js → days_kept j.kept (unit_days c) ≡ days_kept j.kept (unit_days x)
      gone js is away = sym (ap (days_kept j.kept) (shut_unit_days x sized s stray.below js is away) ∙ kept_later j.kept (unit_days c) (day_at x s) stray.later)

  later_date : last_kept x / 1440 < slot_date x s / 86400
  later_date = omega (arith, found.kept, stray.later, number_in x (slot_place s) DAY_SLOT_SIZE 0 4 (omega arith), ap (λ (q : ℕ). number_at x q 4) (add-zero (slot_place s)))

  last_stays : is_last_good c s (indices c) ≡ true
  last_stays = elim (Rattle.std.proofs.lemmas.Bool.cases_lt 0 j.kept) as (λ v. is_last_good c s (indices c) ≡ true) [
    | inl some ↦
        let day = shut_found.newest some in
        let js = day.0 in
        let i = j.index in
        let here : nat_le (slot_date c i / 86400) (last_kept c / 1440) ≡ true = le_true (slot_date c i / 86400) (last_kept c / 1440) (omega (arith, day.1.date, shut_found.kept)) in
        ap (is_last_good c s) (day.1.order_is ∙ append-nil (js ++ i ∷ [])) ∙ last_good_at c s js i ∙ ap (λ (b : Bool). b || i == s) here
    | inr none ↦ ap (is_last_good c s) (shut_found.none (omega (arith, none)))
  ]

  pub shut_still : IsGood x → IsGood c
  shut_still = shut_good x c s stray.below (gate_outside x sized s stray.below) (shut_gate x sized s stray.below) stray.at_pointer (other_there x sized s stray.below) later_date last_stays

-- one mending step on the days: what it leaves alone, and which days there are then
record IsDayStep (j : Notes) (x y : List ℕ) : Type 0 where
  good : IsGood x → IsGood y
  outside : SameOutside (slot_place 0) (DAYS.size - 4) x y
  minutes : recorded y ≡ recorded x
  days : days_kept j.kept (unit_days y) ≡ days_kept j.kept (unit_days x)

no_step : (j : Notes) (x : List ℕ) → IsDayStep j x x
no_step j x = record { good = λ good. good; outside = outside_same (slot_place 0) (DAYS.size - 4) x; minutes = refl; days = refl }

-- what is so once no later day is there; its count is the stored one or is cut already
record IsShut (j : Notes) (stray : Option ℕ) (x y : List ℕ) : Type 0 where
  step : IsDayStep j x y
  gate : IsGateShut stray y
  stored : ℕ
  stored_is : (stored ≡ j.stored) ⊎ (stored ≡ j.count)
  found : IsFound j None stored y

-- the days as they were found, or with the gate shut
abbrev MendableBy : Notes → Option ℕ → List ℕ → Type 0
MendableBy j stray x = IsFound j stray j.stored x ⊎ (IsGateShut stray x × (IsFound j None j.stored x ⊎ IsFound j None j.count x))

-- a gate that is shut already stays so
shut_same_image : (stray : Option ℕ) (x : List ℕ) → length x ≡ IMAGE_SIZE → ForSome stray (λ s. s < DAY_SLOTS) → IsGateShut stray x → shut stray x ≡ x
shut_same_image None x sized below gate = refl
shut_same_image (Some s) x sized below gate =
    let small : s < DAY_SLOTS = below s refl in
    ap (λ (b : List ℕ). put (slot_place s) b x) (sym gate) ∙ put_same (slot_place s) 4 x (omega (arith, small, sized))

shut_is : (j : Notes) (ok : IsNotes j) (stray : Option ℕ) (x : List ℕ) → length x ≡ IMAGE_SIZE → ForSome stray (λ s. s < DAY_SLOTS) → MendableBy j stray x → IsShut j stray x (shut stray x)
shut_is j ok None x sized below (inl found) = record { step = no_step j x; gate = tt; stored = j.stored; stored_is = inl refl; found = found }
shut_is j ok (Some s) x sized below (inl found) =
    let at = found.apart.below in
    record {
      step = record { good = shut_still j ok j.stored x sized s found; outside = shut_outside x sized s at; minutes = shut_same j ok j.stored x sized s found; days = shut_kept_days j ok j.stored x sized s found };
      gate = shut_bytes x sized s at;
      stored = j.stored;
      stored_is = inl refl;
      found = shut_found j ok j.stored x sized s found;
    }
shut_is j ok stray x sized below (inr (gate, inl found)) = subst (IsShut j stray x) (sym (shut_same_image stray x sized below gate)) (record { step = no_step j x; gate = gate; stored = j.stored; stored_is = inl refl; found = found })
shut_is j ok stray x sized below (inr (gate, inr found)) = subst (IsShut j stray x) (sym (shut_same_image stray x sized below gate)) (record { step = no_step j x; gate = gate; stored = j.count; stored_is = inr refl; found = found })

-- the notes without what was found are as right
pub agrees_mended : (j : Notes) (z : List ℕ) → Agrees j z → Agrees (notes_mended j) z
agrees_mended j z agrees = record {
  kept = agrees.kept;
  odometer = agrees.odometer;
  pointer = agrees.pointer;
  none = agrees.none;
  newest = λ some.
      let day = (agrees.newest some).1 in (
        (agrees.newest some).0,
        record {
          order_is = day.order_is;
          next_is = day.next_is;
          dense = day.dense;
          days = day.days;
          others = day.others;
          earlier = day.earlier;
          date = day.date;
          few = day.few;
          count = day.count;
          low = day.low;
          driver = day.driver;
          codriver = day.codriver;
        },
      );
}

-- the days after both steps
record AreDaysMended (j : Notes) (x z : List ℕ) : Type 0 where
  good : IsGood x → IsGood z
  outside : SameOutside (slot_place 0) (DAYS.size - 4) x z
  minutes : recorded z ≡ recorded x
  days : unit_days z ≡ days_kept j.kept (unit_days x)
  gate : IsGateShut j.stray z
  agrees : Agrees j z

-- the count is cut where there is a minute
module _ (j : Notes) (ok : IsNotes j) (x : List ℕ) (sized : length x ≡ IMAGE_SIZE) (y : List ℕ) (shut_at : IsShut j j.stray x y) where
  y_sized : length y ≡ IMAGE_SIZE
  y_sized = shut_at.step.outside.same_length ∙ sized

  gate_cut : (c : List ℕ) → ((s : ℕ) → bytes_at c (slot_place s) 4 ≡ bytes_at y (slot_place s) 4) → (stray : Option ℕ) → IsGateShut stray y → IsGateShut stray c
  gate_cut c same None gate = gate
  gate_cut c same (Some s) gate = same s ∙ gate

  trim_cut : 0 < j.kept → AreDaysMended j x (with_count j.index j.count y)
  trim_cut some =
      let c = with_count j.index j.count y in
      record {
        good = λ good. cut_still j ok shut_at.stored y y_sized shut_at.found some (shut_at.step.good good);
        outside = outside_then (slot_place 0) (DAYS.size - 4) x y c shut_at.step.outside (cut_outside j ok shut_at.stored y y_sized shut_at.found some);
        minutes = cut_recorded j ok shut_at.stored y y_sized shut_at.found some ∙ shut_at.step.minutes;
        days = cut_days j ok shut_at.stored y y_sized shut_at.found some ∙ shut_at.step.days;
        gate = gate_cut c (cut_gate j ok shut_at.stored y y_sized shut_at.found some) j.stray shut_at.gate;
        agrees = cut_agrees j ok shut_at.stored y y_sized shut_at.found some;
      }

  trim_uncut : 0 < j.kept → j.stored ≡ j.count → AreDaysMended j x y
  trim_uncut some same =
      let is : shut_at.stored ≡ j.count = ⊎_elim (λ stored. stored ∙ same) (λ cut. cut) shut_at.stored_is in
      record {
        good = shut_at.step.good;
        outside = shut_at.step.outside;
        minutes = shut_at.step.minutes;
        days = uncut_days j ok shut_at.stored y y_sized shut_at.found some is ∙ shut_at.step.days;
        gate = shut_at.gate;
        agrees = uncut_agrees j ok shut_at.stored y y_sized shut_at.found some is;
      }

  trim_none : j.kept ≡ 0 → AreDaysMended j x y
  trim_none zero_kept =
      let f = shut_at.found in
      let empty : unit_days y ≡ [] = all_days y ∙ ap (map (day_at y)) (f.none zero_kept) in
      record {
        good = shut_at.step.good;
        outside = shut_at.step.outside;
        minutes = shut_at.step.minutes;
        days = empty ∙ ap (days_kept j.kept) (sym empty) ∙ shut_at.step.days;
        gate = shut_at.gate;
        agrees = record { kept = f.kept; odometer = f.odometer; pointer = f.pointer; none = f.none; newest = λ some. absurd (omega (arith, some, zero_kept)) };
      }

  trim_is : (a : Bool) → (j.kept == 0) ≡ a → (b : Bool) → (j.stored == j.count) ≡ b → AreDaysMended j x (cond a y (cond b y (with_count j.index j.count y)))
  trim_is true none b is = trim_none (eq_of j.kept 0 none)
  trim_is false more true is = let some : j.kept ≢ 0 = grind (arith, nat_tests, more) in trim_uncut (omega (arith, some)) (eq_of j.stored j.count is)
  trim_is false more false is = let some : j.kept ≢ 0 = grind (arith, nat_tests, more) in trim_cut (omega (arith, some))

kept_or : (now kept before : ℕ) → now ≡ minute_kept kept before → (now ≡ 0) ⊎ (now ≡ before)
kept_or now kept before is = by (nat_lt kept before) is
  where
    by : (b : Bool) → now ≡ cond b 0 before → (now ≡ 0) ⊎ (now ≡ before)
    by true is = inl is
    by false is = inr is

-- a `mend` from its first cell to the count
module _ (j : Notes) (ok : IsNotes j) (x : List ℕ) (sized : length x ≡ IMAGE_SIZE) (mendable : IsMendable j x) where
  kept_is : IsMendable j x → last_kept x ≡ j.kept
  kept_is (inl found) = found.kept
  kept_is (inr (gate, inl found)) = found.kept
  kept_is (inr (gate, inr found)) = found.kept

  known_is : IsMendable j x → pointer day_ring x < DAY_SLOTS
  known_is (inl found) = found.pointer
  known_is (inr (gate, inl found)) = found.pointer
  known_is (inr (gate, inr found)) = found.pointer

  -- the cells
  abbrev at : ℕ → List ℕ
  at n = cells_emptied j.kept n x

  cells : (n : ℕ) → n ≤ 32 → IsEmptied j.kept x sized n (at n)
  cells n le = emptied j.kept x sized n le

  cells_beside : (n : ℕ) → n ≤ 32 → SameJournal x (at n)
  cells_beside n le = beside OWED.place OWED.size x (at n) (inr (inl (omega arith, omega arith))) (cells n le).outside

  cell_as : (kept m before now : ℕ) → kept ≡ m → now ≡ minute_kept m before → now ≡ minute_kept kept before
  cell_as kept m before now same is = is ∙ ap (λ (k : ℕ). minute_kept k before) (sym same)

  cells_good : (n : ℕ) → n ≤ 32 → IsGood x → IsGood (at n)
  cells_good n le =
      let c = cells n le in
      rows_good x (at n) c.outside c.words (λ m below. ⊎_elim (λ less. kept_or (cell_minute (at n) m) j.kept (cell_minute x m) (c.done m less)) (λ more. inr (c.left m more)) (cases_lt m n))

  mending_cells : (n : ℕ) → n ≤ 32 → IsMending j x (at n)
  mending_cells n le =
      let c = cells n le in
      record {
        outside = rows_outside x (at n) c.outside;
        rows = record { heads = λ r below. c.heads r; words = λ m below. c.words m };
        cells = λ m below. ⊎_elim
            (λ less. inr (cell_as (last_kept x) j.kept (cell_minute x m) (cell_minute (at n) m) (kept_is mendable) (c.done m less)))
            (λ more. inl (c.left m more))
            (cases_lt m n);
        decodes = λ decodes. good_decodes (at n) (cells_good n le (good_of x decodes));
        minutes = recorded_beside x (at n) (cells_beside n le) (known_is mendable);
        odometers = records-same x (at n) (days_beside x (at n) (cells_beside n le) (known_is mendable)) (last_beside x (at n) (cells_beside n le));
        written = λ i. days_kept (last_beside x (at n) (cells_beside n le) i) (days_beside x (at n) (cells_beside n le) (known_is mendable) i);
        mendable = mendable_beside x (at n) (cells_beside n le) j ok mendable;
      }

  abbrev all : List ℕ
  all = at 32

  emptied_all : IsEmptied j.kept x sized 32 all
  emptied_all = cells 32 (omega arith)

  all_sized : length all ≡ IMAGE_SIZE
  all_sized = emptied_all.outside.same_length ∙ sized

  all_mending : IsMending j x all
  all_mending = mending_cells 32 (omega arith)

  all_days_same : unit_days all ≡ unit_days x
  all_days_same = days_beside x all (cells_beside 32 (omega arith)) (known_is mendable)

  -- a step on the days leaves the rows alone
  cells_done : (c : List ℕ) → SameOutside (slot_place 0) (DAYS.size - 4) all c → (n : ℕ) → n < 32 → cell_minute c n ≡ minute_kept (last_kept x) (cell_minute x n)
  cells_done c same n below = number_before (slot_place 0) (DAYS.size - 4) (cell_place n) 4 all c same (omega arith) ∙ cell_as (last_kept x) j.kept (cell_minute x n) (cell_minute all n) (kept_is mendable) (emptied_all.done n below)

  rows_then : (c : List ℕ) → SameOutside (slot_place 0) (DAYS.size - 4) all c → SameButMinutes x c
  rows_then c same = record {
    heads = λ r below. part_before (slot_place 0) (DAYS.size - 4) (OWED.place + r * OWED_ROW_SIZE) 24 all c same (omega (arith, below)) ∙ emptied_all.heads r;
    words = λ m below. number_before (slot_place 0) (DAYS.size - 4) (cell_place m + 4) 2 all c same (omega arith) ∙ emptied_all.words m;
  }

  outside_then_days : (c : List ℕ) → SameOutside (slot_place 0) (DAYS.size - 4) all c → SameButRowsAndSlots x c
  outside_then_days c same = outside_both x all c (rows_outside x all emptied_all.outside) (slots_outside all c same)

  decodes_then : (c : List ℕ) → (IsGood all → IsGood c) → Decodes x → Decodes c
  decodes_then c good decodes = good_decodes c (good (cells_good 32 (omega arith) (good_of x decodes)))

  last_then : (c : List ℕ) → SameOutside (slot_place 0) (DAYS.size - 4) all c → last_kept c ≡ last_kept all
  unfolding last_kept
  last_then c same = number_before (slot_place 0) (DAYS.size - 4) LAST_KEPT.place LAST_KEPT.size all c same (omega arith)

  last_all : last_kept all ≡ j.kept
  last_all = last_beside x all (cells_beside 32 (omega arith)) ∙ kept_is mendable

  mending_then : (c : List ℕ) → SameOutside (slot_place 0) (DAYS.size - 4) all c → (IsGood all → IsGood c) → recorded c ≡ recorded all → ((day odometer : ℕ) → RecordsDay c day odometer → RecordsDay all day odometer) → days_kept j.kept (unit_days c) ≡ days_kept j.kept (unit_days all) → IsMendable j c → IsMending j x c
  mending_then c same good minutes odometers written again = record {
    decodes = decodes_then c good;
    outside = outside_then_days c same;
    rows = rows_then c same;
    cells = λ n below. inr (cells_done c same n below);
    minutes = minutes ∙ all_mending.minutes;
    odometers = λ day odometer r. all_mending.odometers day odometer (odometers day odometer r);
    written = ap (λ (k : ℕ). days_kept k (unit_days c)) (last_then c same ∙ last_all) ∙ written ∙ ap (λ (k : ℕ). days_kept k (unit_days all)) (sym last_all) ∙ all_mending.written;
    mendable = again;
  }

  -- the gate
  abbrev y : List ℕ
  y = shut j.stray all

  shut_at : IsShut j j.stray all y
  shut_at = shut_is j ok j.stray all all_sized ok.stray all_mending.mendable

  again_by : (n : ℕ) → (n ≡ j.stored) ⊎ (n ≡ j.count) → IsGateShut j.stray y → IsFound j None n y → IsMendable j y
  again_by n (inl stored) gate found = inr (gate, inl (subst (λ (m : ℕ). IsFound j None m y) stored found))
  again_by n (inr cut) gate found = inr (gate, inr (subst (λ (m : ℕ). IsFound j None m y) cut found))

  mending_shut : IsMending j x y
  mending_shut =
      mending_then y shut_at.step.outside shut_at.step.good shut_at.step.minutes
      (records-kept j.kept all y last_all (last_then y shut_at.step.outside ∙ last_all) shut_at.step.days) shut_at.step.days (again_by shut_at.stored shut_at.stored_is shut_at.gate shut_at.found)

  -- the count
  again_after : (z : List ℕ) → AreDaysMended j all z → IsMendable j z
  again_after z done = inr (done.gate, inr (found_agreed j ok z done.agrees))

  mending_after : (z : List ℕ) → AreDaysMended j all z → IsMending j x z
  mending_after z done = mending_then z done.outside done.good done.minutes (records-cut j.kept all z (last_then z done.outside) done.days)
      (ap (λ (k : ℕ). days_kept k (unit_days z)) (sym done.agrees.kept) ∙ agreed-written j z done.agrees ∙ done.days) (again_after z done)

  pub mend_moment : (c : List ℕ) → IsMendStep j x c → IsMending j x c
  mend_moment c (inl emptying) = subst (IsMending j x) (sym emptying.2) (mending_cells emptying.0 emptying.1)
  mend_moment c (inr (inl (inl absent))) = subst (IsMending j x) (sym absent) all_mending
  mend_moment c (inr (inl (inr whole))) = subst (IsMending j x) (sym whole) mending_shut
  mend_moment c (inr (inr (some, inl absent))) = subst (IsMending j x) (sym absent) mending_shut
  mend_moment c (inr (inr (some, inr whole))) = subst (IsMending j x) (sym whole) (mending_after (with_count j.index j.count y) (trim_cut j ok all all_sized y shut_at some))

  done_all : AreDaysMended j all (mended j x)
  done_all = trim_is j ok all all_sized y shut_at (j.kept == 0) refl (j.stored == j.count) refl

  pub mend_done : IsMended x (mended j x)
  mend_done = record {
    decodes = decodes_then (mended j x) done_all.good;
    outside = outside_then_days (mended j x) done_all.outside;
    rows = rows_then (mended j x) done_all.outside;
    cells = cells_done (mended j x) done_all.outside;
    minutes = done_all.minutes ∙ all_mending.minutes;
    days = done_all.days ∙ ap (days_kept j.kept) all_days_same ∙ ap (λ (k : ℕ). days_kept k (unit_days x)) (sym (kept_is mendable));
  }

  pub mend_agrees : Agrees (notes_mended j) (mended j x)
  mend_agrees = agrees_mended j (mended j x) done_all.agrees
