-- The moments of a new day's writes, and what they leave.
use Rattle.std.proofs.Common.{◌≡◌, ◌≢◌, ◌⊎◌, inl, inr, ⊎_elim, ℕ, zero, suc, ◌+◌, ◌-◌, ◌*◌, ◌/◌, ◌%◌, ◌<◌, ◌≤◌, Bool, true, false, not, cond, List, [], ◌∷◌, ◌++◌, length, drop, map, filter, refl, sym, ◌∙◌, ap, subst, arith, length-append, length-drop, lit≤, min, replicate}
use Rattle.std.specs.Prelude.{◌==◌, ◌&&◌, nat_le, nat_lt}
use Rattle.std.specs.Int.{to_be_bytes, w16, w32}
use Rattle.card_layout.specs.Images.{big_number}
use Rattle.std.proofs.lemmas.Bool.Decides.{nat_tests}
use Rattle.std.proofs.lemmas.Bool.{cases_lt, cases_eq}
use Rattle.card_layout.proofs.Numbers.{big_number-big_bytes}
use Rattle.std.proofs.lemmas.List.{length-map}
use Rattle.tach_media.specs.Medium.{SameOutside, IsPartlyWritten, bytes_at}
use Rattle.tach_media.proofs.Images.{put_outside}
use Rattle.gated_ring.specs.declared.room.Room.{Room}
use Rattle.gated_ring.specs.Ring.{number_at, pointer, is_there, entry_at, taken, with_head, newest_of}
use Rattle.gated_ring.specs.Change.{SameOthers, IsAdding, IsAdded}
use Rattle.gated_ring.specs.Plans.{room_in}
use Rattle.unit_model.specs.declared.layout.TheConstants.{DAYS, DAY_COUNT, DAY_SLOTS, DAY_SLOT_SIZE, DAY_WORDS, DAY_WORD_LIMIT, HIGHEST_ODOMETER, IMAGE_SIZE, LAST_KEPT, LAST_MINUTE, ODOMETER}
use Rattle.unit_model.specs.Days.{slot_bit, word_minute, word_by, bare, state_at, UnitMinute, ShownDay, StoredDay, day_of, day_shown, days_shown, filled, Each, minute_by}
use Rattle.unit_model.specs.Changes.{change, changes, first_state, first_states, further_words}
use Rattle.unit_model.specs.Image.{day_ring, slot_place, last_kept, odometer_at, unit_day, unit_days, spare_bytes, recorded, slot_date, slot_odometer, slot_count, slot_words}
use Rattle.std.specs.List.{list_all}
use Rattle.unit_model.specs.Decoding.{Decodes, has_day, word_checks}
use Rattle.unit_model.proofs.Checks.{passes, and_join, IsGood, still}
use Rattle.unit_model.proofs.StillDecodes.{counted_good}
use Rattle.unit_model.proofs.WordsGood.{changes_good, good_low}
use Rattle.unit_model.proofs.KeptDecodes.{behind_good, index_there, mark_good}
use Rattle.unit_model.proofs.AddedDecodes.{HasToday, any_at, or_right, eq_true, shut_good, open_good}
use Rattle.unit_minutes.specs.Coming.{SlotBits, Coming, IsComing, first_bits}
use Rattle.unit_minutes.specs.Minute.{head_of, new_head, further, notes_begun}
use Rattle.unit_minutes.specs.Image.{Notes, Agrees}
use Rattle.unit_minutes.specs.Keeping.{SameBesides, IsGivenUp, IsKeeping}
use Rattle.unit_model.specs.Writing.{written, free_place, DiffersBehind, with_kept, with_words}
use Rattle.unit_model.specs.Retention.{retained, last_day}
use Rattle.unit_model.proofs.Retention.{begins_of}
use Rattle.unit_minutes.specs.DaysWith.{last_day_closed, begun_day, days_with, HasDays, AreTurning, AreBetween}
use Rattle.unit_minutes.proofs.DaysWith.{drop_push, spare_front, spare_behind, spare_count}
use Rattle.unit_minutes.specs.Plans.{counted, mark, beginning}
use Rattle.unit_minutes.proofs.Planned.{counted_put, counted_moment}
use Rattle.tach_media.specs.Plan.{IsPartway}
use Rattle.tach_media.proofs.Plans.{partway_either}
use Rattle.unit_model.proofs.States.{slot_of, minute_of, minutes_by}
use Rattle.unit_model.proofs.Commits.{begun_at}
use Rattle.unit_model.proofs.Growth.{day_later}
use Rattle.unit_model.proofs.Numbers.{number_before, number_after, number_put4, part_in, number_in, words_in, AreShort}
use Rattle.unit_model.proofs.Slots.{day_at, IsSlot, slot_days, slot_behind, slot_front, slot_counted}
use Rattle.unit_minutes.proofs.Besides.{before_mark, behind_mark, besides_then, besides_front, besides_days, few_slots}
use Rattle.unit_model.proofs.Front.{HasOdometer, front_then}
use Rattle.unit_minutes.proofs.Behind.{behind_written}
use Rattle.unit_minutes.proofs.Keeping.{changes_few, changes_short}
use Rattle.unit_model.proofs.Recorded.{recorded_is}
use Rattle.unit_model.proofs.Turning.{others_of, others_each, taken_below, IsReady, adding_days, added_pointer, added_indices, added_older, added_next, added_entry}

-- where no day is later, all are shown
shown_all : (k : ℕ) (days : List StoredDay) → Each (λ d. day_of d ≤ k / 1440) days → days_shown k days ≡ map (day_shown k) days
shown_all k [] all = refl
shown_all k (d ∷ days) all =
    let on : nat_le (day_of d) (k / 1440) ≡ true = grind (arith, nat_tests, all.0) in
    ap (λ (b : Bool). map (day_shown k) (cond b (d ∷ filter (λ d. nat_le (day_of d) (k / 1440)) days) (filter (λ d. nat_le (day_of d) (k / 1440)) days))) on
    ∙ ap (λ (l : List ShownDay). day_shown k d ∷ l) (shown_all k days all.1)

each_drop : (P : StoredDay → Type 0) (n : ℕ) (days : List StoredDay) → Each P days → Each P (drop n days)
each_drop P zero days all = all
each_drop P (suc n) [] all = tt
each_drop P (suc n) (d ∷ days) all = each_drop P n days all.1

pub each_push : (P : StoredDay → Type 0) (days : List StoredDay) (d : StoredDay) → Each P days → P d → Each P (days ++ d ∷ [])
each_push P [] d all one = (one, tt)
each_push P (x ∷ days) d all one = (all.0, each_push P days d all.1 one)

each_before : (a b : ℕ) → a < b → (days : List StoredDay) → Each (λ d. day_of d ≤ a) days → Each (λ d. day_of d < b) days
each_before a b less [] all = tt
each_before a b less (d ∷ days) all = (omega (arith, all.0, less), each_before a b less days all.1)

each_later : (a b : ℕ) → a ≤ b → (days : List StoredDay) → Each (λ d. day_of d ≤ a) days → Each (λ d. day_of d ≤ b) days
each_later a b le [] all = tt
each_later a b le (d ∷ days) all = (omega (arith, all.0, le), each_later a b le days all.1)

map_drop : {X Y : Type 0} (f : X → Y) (n : ℕ) (xs : List X) → map f (drop n xs) ≡ drop n (map f xs)
map_drop f zero xs = refl
map_drop f (suc n) [] = refl
map_drop f (suc n) (x ∷ xs) = map_drop f n xs

shown_drop : (k n : ℕ) (days : List StoredDay) → Each (λ d. day_of d ≤ k / 1440) days → days_shown k (drop n days) ≡ drop n (days_shown k days)
shown_drop k n days all = shown_all k (drop n days) (each_drop (λ d. day_of d ≤ k / 1440) n days all) ∙ map_drop (day_shown k) n days ∙ ap (drop n) (sym (shown_all k days all))

last_shown : (a k : ℕ) (days : List StoredDay) → Each (λ d. day_of d ≤ a) days → last_day (map (day_shown k) days) ≤ a
last_shown a k [] all = omega arith
last_shown a k (d ∷ []) all = all.0
last_shown a k (d ∷ e ∷ days) all = last_shown a k (e ∷ days) all.1

shown_length : (k : ℕ) (days : List StoredDay) → Each (λ d. day_of d ≤ k / 1440) days → length (days_shown k days) ≡ length days
shown_length k days all = ap length (shown_all k days all) ∙ length-map days (day_shown k)

-- the day of a head
head_day : (date odometer d c : ℕ) (rest : List ℕ) → date < 4294967296 → odometer < 4294967296 → d < 16 → c < 16
    → unit_day (head_of date odometer (record { driver = d; codriver = c }) ++ rest) ≡ record { date = date; odometer = odometer; words = word_by 0 d 0 ∷ word_by 1 c 0 ∷ [] }
head_day date odometer d c rest small far s1 s2 =
    let w0 : big_number 2 (to_be_bytes w16 (word_by 0 d 0)) ≡ word_by 0 d 0 = big_number-big_bytes 2 (word_by 0 d 0) (omega arith) in
    let w1 : big_number 2 (to_be_bytes w16 (word_by 1 c 0)) ≡ word_by 1 c 0 = big_number-big_bytes 2 (word_by 1 c 0) (omega arith) in
    λ i. record { date = big_number-big_bytes 4 date (omega (arith, small)) i; odometer = big_number-big_bytes 4 odometer (omega (arith, far)) i; words = w0 i ∷ w1 i ∷ [] }

-- the odometer of a head, and how many words it has
head_odometer : (date odometer : ℕ) (first : SlotBits) (rest : List ℕ) → odometer < 4294967296 → number_at (head_of date odometer first ++ rest) 4 4 ≡ odometer
head_odometer date odometer first rest small = big_number-big_bytes 4 odometer (omega (arith, small))

-- the first two words are good
module _ (d c : ℕ) (s1 : d < 16) (s2 : c < 16) where
  abbrev w0 : ℕ
  w0 = word_by 0 d 0

  abbrev w1 : ℕ
  w1 = word_by 1 c 0

  m0 : word_minute w0 ≡ 0
  m0 = minute_of 0 d 0 (lit≤ tt) s1 (lit≤ tt)

  m1 : word_minute w1 ≡ 0
  m1 = minute_of 1 c 0 (lit≤ tt) s2 (lit≤ tt)

  l0 : slot_bit w0 ≡ 0
  l0 = slot_of 0 d 0 (lit≤ tt) s1 (lit≤ tt)

  l1 : slot_bit w1 ≡ 1
  l1 = slot_of 1 c 0 (lit≤ tt) s2 (lit≤ tt)

  firsts_checks : (place : ℕ) → list_all passes (word_checks place [] (w0 ∷ w1 ∷ [])) ≡ true
  firsts_checks place = λ i.
      (nat_lt (m0 i) 1440 && (true && (l0 i == 0 && m0 i == 0)))
      && ((nat_lt (m1 i) 1440 && (((nat_le (m0 i) (m1 i) && not (l0 i == l1 i && m0 i == m1 i)) && true) && (l1 i == 1 && m1 i == 0))) && true)

-- the words of a new day by either spelling
change_same : (s t d : ℕ) → change s t d d ≡ []
change_same s t d = let same : (d == d) ≡ true = grind (arith, nat_tests) in ap (λ (b : Bool). cond b [] (word_by s d t ∷ [])) same

pub new_spelled : (t d c : ℕ) → (word_by 0 (first_state t d) 0 ∷ word_by 1 (first_state t c) 0 ∷ []) ++ changes t (first_state t d) (first_state t c) d c ≡ first_states t d c ++ further_words t d c
new_spelled t d c = by (t == 0)
  where
    by : (b : Bool) → (word_by 0 (cond b d bare) 0 ∷ word_by 1 (cond b c bare) 0 ∷ []) ++ changes t (cond b d bare) (cond b c bare) d c
        ≡ cond b (word_by 0 d 0 ∷ word_by 1 c 0 ∷ []) (word_by 0 bare 0 ∷ word_by 1 bare 0 ∷ []) ++ cond b [] (changes t bare bare d c)
    by true = (λ i. word_by 0 d 0 ∷ word_by 1 c 0 ∷ (change_same 0 t d i ++ change 1 t c c)) ∙ (λ i. word_by 0 d 0 ∷ word_by 1 c 0 ∷ change_same 1 t c i)
    by false = refl

firsts_spelled : (t d c : ℕ) → word_by 0 (first_state t d) 0 ∷ word_by 1 (first_state t c) 0 ∷ [] ≡ first_states t d c
firsts_spelled t d c = by (t == 0)
  where
    by : (b : Bool) → word_by 0 (cond b d bare) 0 ∷ word_by 1 (cond b c bare) 0 ∷ [] ≡ cond b (word_by 0 d 0 ∷ word_by 1 c 0 ∷ []) (word_by 0 bare 0 ∷ word_by 1 bare 0 ∷ [])
    by true = refl
    by false = refl

first_short : (t d : ℕ) → d < 16 → first_state t d < 16
first_short t d s = by (t == 0)
  where
    by : (b : Bool) → cond b d bare < 16
    by true = s
    by false = omega arith

-- a new day has few words
few_by : (t d c : ℕ) → 2 + length (changes t (first_state t d) (first_state t c) d c) ≤ 2 * (t + 1)
few_by t d c = by (t == 0) refl
  where
    by : (b : Bool) → (t == 0) ≡ b → 2 + length (changes t (cond b d bare) (cond b c bare) d c) ≤ 2 * (t + 1)
    by true is = omega (arith, ap length (λ i. change_same 0 t d i ++ change 1 t c c), ap length (change_same 1 t c))
    by false is = let isnt : t ≢ 0 = grind (arith, nat_tests, is) in omega (arith, changes_few t bare bare d c, isnt)

pub further_few : (coming : Coming) → 2 + length (further coming) ≤ 2 * (coming.minute % 1440 + 1)
further_few coming = few_by (coming.minute % 1440) coming.bits.driver coming.bits.codriver

-- an image whose n days are closed, so that a new one can be added
pub record IsClosed (n k : ℕ) (coming : Coming) (x x2 : List ℕ) (known : pointer day_ring x2 < DAY_SLOTS) : Type 0 where
  pub odometer_is : odometer_at x2 ≡ coming.odometer
  pub sized : length x2 ≡ IMAGE_SIZE
  pub kept : last_kept x2 ≡ k
  pub kept_was : last_kept x ≡ k
  pub besides : SameBesides x x2
  pub recorded_are : days_shown k (unit_days x2) ≡ recorded x
  pub all_now : Each (λ d. day_of d ≤ k / 1440) (unit_days x2)
  pub commit : days_shown coming.minute (unit_days x2 ++ begun_day coming ∷ []) ≡ filled (recorded x) (minute_by coming.minute coming.bits.driver coming.bits.codriver)
  pub written : days_with (last_kept x) coming (unit_days x) ≡ unit_days x2 ++ begun_day coming ∷ []
  pub closed_are : unit_days x2 ≡ last_day_closed (last_kept x) (unit_days x)
  pub room : room_in day_ring x2 ≡ room_in day_ring x
  pub spare : (i : ℕ) → spare_bytes x2 i ≡ spare_bytes x i
  pub ready : IsReady x2 known
  pub days : length (unit_days x2) ≡ n
  pub good : IsGood x → IsGood x2
  pub today : HasToday x2

module _ (n k : ℕ) (coming : Coming) (fits : IsComing coming) (later : k / 1440 < coming.minute / 1440) (x x2 : List ℕ) (known : pointer day_ring x2 < DAY_SLOTS) (closed : IsClosed n k coming x x2 known) where
  abbrev m : ℕ
  m = coming.minute

  abbrev dn : ℕ
  dn = coming.bits.driver

  abbrev cn : ℕ
  cn = coming.bits.codriver

  abbrev odometer : ℕ
  odometer = coming.odometer

  abbrev it : UnitMinute
  it = minute_by m dn cn

  abbrev date : ℕ
  date = 86400 * (m / 1440)

  abbrev firsts : List ℕ
  firsts = word_by 0 (first_state (m % 1440) dn) 0 ∷ word_by 1 (first_state (m % 1440) cn) 0 ∷ []

  abbrev ws : List ℕ
  ws = further coming

  abbrev begun : StoredDay
  begun = begun_day coming

  abbrev D : List StoredDay
  D = unit_days x2

  abbrev n0 : ℕ
  n0 = length D - (DAY_SLOTS - 1)

  abbrev t : ℕ
  t = taken day_ring x2

  abbrev F : List ℕ
  F = others_of x2

  date_day : date / 86400 ≡ m / 1440
  date_day = omega arith

  all_m : Each (λ d. day_of d ≤ m / 1440) (D ++ begun ∷ [])
  all_m = each_push (λ d. day_of d ≤ m / 1440) D begun (each_later (k / 1440) (m / 1440) (omega arith) D closed.all_now) (omega (arith, date_day))

  filled_length : length (filled (recorded x) it) ≡ length D + 1
  filled_length = omega (arith, ap length closed.commit, shown_length m (D ++ begun ∷ []) all_m, length-append D (begun ∷ []))

  recorded_length : length (recorded x) ≡ length D
  recorded_length = sym (ap length closed.recorded_are) ∙ shown_length k D closed.all_now

  abbrev Minutes : List ℕ → Type 0
  Minutes c = (recorded c ≡ recorded x) ⊎ IsGivenUp it x c

  recorded_last : last_day (recorded x) ≤ k / 1440
  recorded_last = omega (arith, ap last_day (sym closed.recorded_are ∙ shown_all k D closed.all_now), last_shown (k / 1440) k D closed.all_now)

  -- while the oldest may be gone
  given : (c : List ℕ) → recorded c ≡ drop n0 (recorded x) → Minutes c
  given c is = ⊎_elim
      (λ full.
      let last : length D ≤ DAY_SLOTS = few_slots x2 known in
      inr (record { full = omega (arith, recorded_length, full, last); begins = begins_of m (recorded x) (omega (arith, recorded_last, later)); newest = is ∙ ap (λ (n : ℕ). drop (n - (DAY_SLOTS - 1)) (recorded x)) (sym recorded_length) }))
      (λ room. let none : n0 ≡ 0 = omega (arith, room) in inl (is ∙ ap (λ (n : ℕ). drop n (recorded x)) none))
      (cases_lt (DAY_SLOTS - 1) (length D))

  shown_given : days_shown k (drop n0 D) ≡ drop n0 (recorded x)
  shown_given = shown_drop k n0 D closed.all_now ∙ ap (drop n0) closed.recorded_are

  -- a day that is later than the last-kept minute's counts for nothing
  with_later : (c : List ℕ) (d : StoredDay) → last_kept c ≡ k → day_of d ≡ m / 1440 → unit_days c ≡ drop n0 D ++ d ∷ [] → Minutes c
  with_later c d kept day is = given c (recorded_is c k kept ∙ ap (days_shown k) is ∙ day_later k (drop n0 D) d (omega (arith, day, later)) ∙ shown_given)

  later_day : last_kept x / 1440 < m / 1440
  later_day = omega (arith, closed.kept_was, later)

  -- the days at a moment: without the oldest, and then with the new one, whose first words are there or all
  less_days : (c : List ℕ) → unit_days c ≡ drop n0 D → AreTurning (last_kept x) coming (unit_days x) (unit_days c)
  less_days c is = inr (inl (is ∙ ap (newest_of (DAY_SLOTS - 1)) closed.closed_are))

  newest_push : (d : StoredDay) → drop n0 D ++ d ∷ [] ≡ newest_of DAY_SLOTS (D ++ d ∷ [])
  newest_push d = sym (drop_push n0 D d (omega arith)) ∙ ap (λ (n : ℕ). drop n (D ++ d ∷ [])) (omega (arith, length-append D (d ∷ [])))

  more_days : (c : List ℕ) → unit_days c ≡ drop n0 D ++ record { date = date; odometer = odometer; words = firsts } ∷ [] → AreTurning (last_kept x) coming (unit_days x) (unit_days c)
  more_days c is = inr (inr (is ∙ newest_push (record { date = date; odometer = odometer; words = firsts })
      ∙ (λ t. newest_of DAY_SLOTS (closed.closed_are t ++ record { date = date; odometer = odometer; words = firsts_spelled (m % 1440) dn cn t } ∷ []))))

  all_days : (c : List ℕ) → unit_days c ≡ drop n0 D ++ record { date = date; odometer = odometer; words = firsts ++ ws } ∷ [] → unit_days c ≡ newest_of DAY_SLOTS (days_with (last_kept x) coming (unit_days x))
  all_days c is =
      is ∙ ap (λ (l : List ℕ). drop n0 D ++ record { date = date; odometer = odometer; words = l } ∷ []) (new_spelled (m % 1440) dn cn)
      ∙ newest_push begun ∙ sym (ap (newest_of DAY_SLOTS) closed.written)

  -- the spare bytes of the other slots, and of the one that is taken
  abbrev Spare : List ℕ → Type 0
  Spare c = (i : ℕ) → i < DAY_SLOTS → (spare_bytes c i ≡ spare_bytes x i)
      ⊎ ((last_kept x / 1440 < m / 1440) × (i ≡ taken day_ring x) × ((is_there day_ring c i ≡ false) ⊎ (spare_bytes c i ≡ replicate 6 0)))

  taken_is : t ≡ taken day_ring x
  taken_is = ap (λ (room : Room). room.index) closed.room

  spare_other : (c : List ℕ) → SameOthers day_ring t x2 c → (i : ℕ) → i < DAY_SLOTS → i ≢ t → spare_bytes c i ≡ spare_bytes x2 i
  spare_other c others i low other = sym (part_in c (slot_place i) DAY_SLOT_SIZE 10 6 (omega arith)) ∙ ap (λ (e : List ℕ). bytes_at e 10 6) (others i low other).0 ∙ part_in x2 (slot_place i) DAY_SLOT_SIZE 10 6 (omega arith)

  spare_new : (c : List ℕ) → entry_at day_ring c t ≡ with_head day_ring x2 t (new_head coming) → spare_bytes c t ≡ replicate 6 0
  spare_new c entry = sym (part_in c (slot_place t) DAY_SLOT_SIZE 10 6 (omega arith)) ∙ ap (λ (e : List ℕ). bytes_at e 10 6) entry

  spare_by : (c : List ℕ) → SameOthers day_ring t x2 c → (is_there day_ring c t ≡ false) ⊎ (spare_bytes c t ≡ replicate 6 0) → Spare c
  spare_by c others own i low = ⊎_elim
      (λ here. inr (later_day, here ∙ taken_is, subst (λ (j : ℕ). (is_there day_ring c j ≡ false) ⊎ (spare_bytes c j ≡ replicate 6 0)) (sym here) own))
      (λ other. inl (spare_other c others i low other ∙ closed.spare i))
      (cases_eq i t)

  abbrev Moment : List ℕ → Type 0
  Moment c = IsKeeping it odometer x c × AreBetween coming x c

  head_is : (rest : List ℕ) → unit_day (new_head coming ++ rest) ≡ record { date = date; odometer = odometer; words = firsts }
  head_is rest = head_day date odometer (first_state (m % 1440) dn) (first_state (m % 1440) cn) rest (omega (arith, fits.small)) (omega (arith, fits.odometer)) (first_short (m % 1440) dn fits.driver) (first_short (m % 1440) cn fits.codriver)

  adding_kept : (c : List ℕ) → SameOutside DAYS.place DAYS.size x2 c → last_kept c ≡ k
  unfolding last_kept
  adding_kept c same = number_before DAYS.place DAYS.size LAST_KEPT.place LAST_KEPT.size x2 c same (omega arith) ∙ closed.kept

  has_0 : HasOdometer odometer x x2
  has_0 = record { kept = closed.kept ∙ sym closed.kept_was; odometer_is = closed.odometer_is }

  -- the days that stay
  days_F : Each (λ d. day_of d ≤ last_kept x2 / 1440) (map (day_at x2) F)
  days_F = subst (λ (a : ℕ). Each (λ d. day_of d ≤ a / 1440) (map (day_at x2) F)) (sym closed.kept)
      (subst (Each (λ d. day_of d ≤ k / 1440)) (sym closed.ready.days) (each_drop (λ d. day_of d ≤ k / 1440) n0 D closed.all_now))

  firsts_good : (place : ℕ) → list_all passes (word_checks place [] firsts) ≡ true
  firsts_good place = firsts_checks (first_state (m % 1440) dn) (first_state (m % 1440) cn) (first_short (m % 1440) dn fits.driver) (first_short (m % 1440) cn fits.codriver) place

  adding_good : (c : List ℕ) → IsAdding day_ring (new_head coming) x2 c → IsGood x2 → IsGood c
  adding_good c adding good =
      let step = adding.step known in
      let kept_c : last_kept c ≡ last_kept x2 = adding_kept c adding.outside ∙ sym closed.kept in
      let low : last_kept c ≤ LAST_MINUTE = omega (arith, adding_kept c adding.outside, later, fits.small) in
      let far_c : odometer_at c ≤ HIGHEST_ODOMETER = omega (arith, (front_then odometer DAYS.place DAYS.size x x2 c has_0 (omega arith) adding.outside).odometer_is, fits.odometer) in
      ⊎_elim
      (λ same. subst IsGood (sym same) good)
      (λ more. ⊎_elim
      (λ less. shut_good x2 c known step.others step.pointer_is kept_c adding.outside less days_F closed.today low far_c good)
      (λ whole.
      let rest = drop 20 (entry_at day_ring x2 t) in
      let day_c : day_at c t ≡ record { date = date; odometer = odometer; words = firsts } = ap unit_day whole.entry ∙ head_is rest in
      let date_c : slot_date c t ≡ date = sym (number_in c (slot_place t) DAY_SLOT_SIZE 0 4 (omega arith) ∙ ap (λ (q : ℕ). number_at c q 4) (omega arith)) ∙ ap (λ (d : StoredDay). d.date) day_c in
      let count_c : slot_count c t ≡ 2 = sym (number_in c (slot_place t) DAY_SLOT_SIZE DAY_COUNT.place DAY_COUNT.size (omega arith)) ∙ ap (λ (e : List ℕ). number_at e DAY_COUNT.place DAY_COUNT.size) whole.entry in
      let odometer_c : slot_odometer c t ≡ odometer =
      sym (number_in c (slot_place t) DAY_SLOT_SIZE 4 4 (omega arith)) ∙ ap (λ (e : List ℕ). number_at e 4 4) whole.entry ∙ head_odometer date odometer (first_bits (m % 1440) coming.bits) rest (omega (arith, fits.odometer)) in
      let words_c : slot_words c t 2 ≡ firsts =
      sym (words_in c (slot_place t) DAY_SLOT_SIZE DAY_WORDS.place 2 (omega arith)) ∙ ap (λ (n : ℕ). Rattle.unit_model.specs.Image.words_at (entry_at day_ring c t) DAY_WORDS.place n) (sym (number_in c (slot_place t) DAY_SLOT_SIZE DAY_COUNT.place DAY_COUNT.size (omega arith) ∙ count_c)) ∙ ap (λ (d : StoredDay). d.words) day_c in
      open_good x2 c known step.others step.pointer_is kept_c adding.outside (new_head coming) whole days_F closed.today low far_c
      (omega (arith, date_c)) (omega (arith, date_c, closed.kept, later)) (omega (arith, odometer_c, fits.odometer)) count_c (ap (λ (l : List ℕ). list_all passes (word_checks (slot_place t + DAY_WORDS.place) [] l)) words_c ∙ firsts_good (slot_place t + DAY_WORDS.place)) good)
      more)
      step.list

  whole_days : (c : List ℕ) → unit_days c ≡ map (day_at x2) F ++ unit_day (new_head coming ++ drop 20 (entry_at day_ring x2 t)) ∷ [] → unit_days c ≡ drop n0 D ++ record { date = date; odometer = odometer; words = firsts } ∷ []
  whole_days c whole = whole ∙ ap (λ (d : StoredDay). map (day_at x2) F ++ d ∷ []) (head_is (drop 20 (entry_at day_ring x2 t)))
      ∙ ap (λ (l : List StoredDay). l ++ record { date = date; odometer = odometer; words = firsts } ∷ []) closed.ready.days

  adding_keeping : (c : List ℕ) → IsAdding day_ring (new_head coming) x2 c → IsKeeping it odometer x c
  adding_keeping c adding = record {
    side = before_mark it odometer x c (front_then odometer DAYS.place DAYS.size x x2 c has_0 (omega arith) adding.outside) (⊎_elim
        (λ same. inl (recorded_is c k (adding_kept c adding.outside) ∙ ap (days_shown k) same ∙ closed.recorded_are))
        (λ more. ⊎_elim
        (λ less. given c (recorded_is c k (adding_kept c adding.outside) ∙ ap (days_shown k) (less ∙ closed.ready.days) ∙ shown_given))
        (λ whole. with_later c (record { date = date; odometer = odometer; words = firsts }) (adding_kept c adding.outside) date_day (whole_days c whole))
        more)
        (adding_days x2 known (new_head coming) c adding));
    outside = besides_then x x2 c closed.besides (besides_days DAYS.place DAYS.size x2 c (omega arith) (omega arith) adding.outside);
    decodes = still x c (λ good. adding_good c adding (closed.good good));
  }

  adding_between : (c : List ℕ) → IsAdding day_ring (new_head coming) x2 c → AreBetween coming x c
  adding_between c adding =
      let step = adding.step known in
      record {
        days = inr (inr (
          later_day,
          ⊎_elim
              (λ same. inl (same ∙ closed.closed_are))
              (λ more. ⊎_elim (λ less. less_days c (less ∙ closed.ready.days)) (λ whole. more_days c (whole_days c whole)) more)
              (adding_days x2 known (new_head coming) c adding),
        ));
        side = inl (adding_kept c adding.outside ∙ sym closed.kept_was);
        spare = ⊎_elim
            (λ same. λ i low. inl (ap (λ (l : List ℕ). spare_bytes l i) same ∙ closed.spare i))
            (λ more. ⊎_elim (λ less. spare_by c step.others (inl less.shut)) (λ whole. spare_by c step.others (inr (spare_new c whole.entry))) more)
            step.list;
      }

  -- a moment of the writes of the new slot
  pub adding_moment : (c : List ℕ) → IsAdding day_ring (new_head coming) x2 c → Moment c
  adding_moment c adding = (adding_keeping c adding, adding_between c adding)

  ws_short : AreShort ws
  ws_short = changes_short (m % 1440) (first_state (m % 1440) dn) (first_state (m % 1440) cn) dn cn (omega arith) fits.driver fits.codriver

  ws_few : length ws ≤ 2
  ws_few = changes_few (m % 1440) (first_state (m % 1440) dn) (first_state (m % 1440) cn) dn cn

  module _ (y : List ℕ) (added : IsAdded day_ring (new_head coming) x2 y) where
    below : t < DAY_SLOTS
    below = taken_below x2 known

    others : Each (λ j. (j < DAY_SLOTS) × (j ≢ t)) F
    others = others_each x2 known

    abbrev older : List StoredDay
    older = map (day_at x2) F

    day_y : day_at y t ≡ record { date = date; odometer = odometer; words = firsts }
    day_y = ap unit_day (added_entry x2 known (new_head coming) y added) ∙ head_is (drop 20 (entry_at day_ring x2 t))

    count_y : slot_count y t ≡ 2
    count_y = sym (number_in y (slot_place t) DAY_SLOT_SIZE DAY_COUNT.place DAY_COUNT.size (omega arith)) ∙ ap (λ (e : List ℕ). number_at e DAY_COUNT.place DAY_COUNT.size) (added_entry x2 known (new_head coming) y added)

    slot_y : IsSlot t F older t k date odometer 2 firsts y
    slot_y = record {
      sized = added.outside.same_length ∙ closed.sized;
      pointer_is = added_pointer x2 known (new_head coming) y added;
      kept = adding_kept y added.outside;
      order_is = added_indices x2 known (new_head coming) y added;
      next_is = added_next x2 known (new_head coming) y added;
      older_are = added_older x2 known (new_head coming) y added;
      date_is = sym (number_in y (slot_place t) DAY_SLOT_SIZE 0 4 (omega arith) ∙ ap (λ (q : ℕ). number_at y q 4) (omega arith)) ∙ ap (λ (d : StoredDay). d.date) day_y;
      odometer_is = sym (number_in y (slot_place t) DAY_SLOT_SIZE 4 4 (omega arith)) ∙ ap (λ (d : StoredDay). d.odometer) day_y;
      count_is = count_y;
      words_are =
          sym (words_in y (slot_place t) DAY_SLOT_SIZE DAY_WORDS.place 2 (omega arith)) ∙ ap (λ (n : ℕ). Rattle.unit_model.specs.Image.words_at (entry_at day_ring y t) DAY_WORDS.place n) (sym (number_in y (slot_place t) DAY_SLOT_SIZE DAY_COUNT.place DAY_COUNT.size (omega arith) ∙ count_y))
          ∙ ap (λ (d : StoredDay). d.words) day_y;
    }

    abbrev y2 : List ℕ
    y2 = written (free_place t 2) ws y

    abbrev y3 : List ℕ
    y3 = with_words t 2 ws y

    abbrev z : List ℕ
    z = with_kept m y3

    behind : DiffersBehind t 2 y y2
    behind = behind_written t 2 ws y below (omega (arith, ws_few)) slot_y.sized

    slot_2 : IsSlot t F older t k date odometer 2 firsts y2
    slot_2 = slot_behind t below F others older t k date odometer 2 (lit≤ tt) firsts y slot_y y2 behind

    slot_3 : IsSlot t F older t k date odometer (2 + length ws) (firsts ++ ws) y3
    slot_3 = slot_counted t below F others older t k date odometer 2 (lit≤ tt) firsts y slot_y ws ws_short (omega (arith, ws_few))

    z_same : SameOutside LAST_KEPT.place LAST_KEPT.size y3 z
    z_same = put_outside LAST_KEPT.place (to_be_bytes w32 m) y3 (omega (arith, slot_3.sized))

    pub slot_z : IsSlot t F older t m date odometer (2 + length ws) (firsts ++ ws) z
    unfolding last_kept
    slot_z = slot_front t below F others older t k date odometer (2 + length ws) (omega (arith, ws_few)) (firsts ++ ws) y3 slot_3 LAST_KEPT.place LAST_KEPT.size m z z_same (omega arith) (number_put4 LAST_KEPT.place m y3 (omega (arith, slot_3.sized)) (omega (arith, fits.small)))

    of_slot : (n : ℕ) (words c : List ℕ) → n ≤ DAY_WORD_LIMIT → IsSlot t F older t k date odometer n words c → Minutes c
    of_slot n words c few slot = with_later c (record { date = date; odometer = odometer; words = words }) slot.kept date_day
        (slot_days t below F others older t k date odometer n few words c slot ∙ ap (λ (l : List StoredDay). l ++ record { date = date; odometer = odometer; words = words } ∷ []) closed.ready.days)

    slot_written : (q n : ℕ) (words c : List ℕ) → n ≤ DAY_WORD_LIMIT → IsSlot t F older t q date odometer n words c → unit_days c ≡ drop n0 D ++ record { date = date; odometer = odometer; words = words } ∷ []
    slot_written q n words c few slot = slot_days t below F others older t q date odometer n few words c slot ∙ ap (λ (l : List StoredDay). l ++ record { date = date; odometer = odometer; words = words } ∷ []) closed.ready.days

    z_days : unit_days z ≡ drop n0 (D ++ begun ∷ [])
    z_days =
        slot_written m (2 + length ws) (firsts ++ ws) z (omega (arith, ws_few)) slot_z
        ∙ ap (λ (l : List ℕ). drop n0 D ++ record { date = date; odometer = odometer; words = l } ∷ []) (new_spelled (m % 1440) dn cn)
        ∙ sym (drop_push n0 D begun (omega arith))

    pub kept_minutes : recorded z ≡ retained (recorded x) it
    kept_minutes =
        recorded_is z m slot_z.kept ∙ ap (days_shown m) z_days ∙ shown_drop m n0 (D ++ begun ∷ []) all_m ∙ ap (drop n0) closed.commit
        ∙ ap (λ (n : ℕ). drop n (filled (recorded x) it)) (omega (arith, filled_length))

    spare_added : (i : ℕ) → i < DAY_SLOTS → (spare_bytes y i ≡ spare_bytes x2 i) ⊎ ((i ≡ t) × (spare_bytes y i ≡ replicate 6 0))
    spare_added i low = ⊎_elim
        (λ here. inr (here, ap (spare_bytes y) here ∙ spare_new y (added_entry x2 known (new_head coming) y added)))
        (λ other. inl (spare_other y (added.others known) i low other))
        (cases_eq i t)

    -- behind the slot's beginning
    between : (c : List ℕ) → (unit_days c ≡ newest_of DAY_SLOTS (days_with (last_kept x) coming (unit_days x))) ⊎ ((last_kept c ≡ k) × AreTurning (last_kept x) coming (unit_days x) (unit_days c))
        → ((i : ℕ) → spare_bytes c i ≡ spare_bytes y i) → AreBetween coming x c
    between c days same = record {
      days = inr (⊎_elim inl (λ turning. inr (later_day, turning.1)) days);
      side = ⊎_elim inr (λ turning. inl (turning.0 ∙ sym closed.kept_was)) days;
      spare = λ i low. ⊎_elim (λ was. inl (same i ∙ was ∙ closed.spare i)) (λ new. inr (later_day, new.0 ∙ taken_is, inr (same i ∙ new.1))) (spare_added i low);
    }

    spare_2 : (i : ℕ) → spare_bytes y2 i ≡ spare_bytes y i
    spare_2 = spare_behind t 2 y y2 (lit≤ tt) behind

    spare_3 : (i : ℕ) → spare_bytes y3 i ≡ spare_bytes y i
    spare_3 i = spare_count t y2 y3 (put_outside (slot_place t + DAY_COUNT.place) (to_be_bytes w16 (2 + length ws)) y2 (omega (arith, below, slot_2.sized))) i ∙ spare_2 i

    z_spare : (i : ℕ) → spare_bytes z i ≡ spare_bytes y i
    z_spare i = spare_front LAST_KEPT.place LAST_KEPT.size y3 z (omega arith) z_same i ∙ spare_3 i

    pub kept_days : HasDays coming x z
    kept_days = record {
      days = all_days z (slot_written m (2 + length ws) (firsts ++ ws) z (omega (arith, ws_few)) slot_z);
      spare = λ i low. ⊎_elim
          (λ same. inl (z_spare i ∙ same ∙ closed.spare i))
          (λ new. inr (later_day, new.0 ∙ sym slot_z.pointer_is, z_spare i ∙ new.1))
          (spare_added i low);
    }

    pub kept_last : last_kept z ≡ it.minute
    kept_last = slot_z.kept

    besides_y : SameBesides x y
    besides_y = besides_then x x2 y closed.besides (besides_days DAYS.place DAYS.size x2 y (omega arith) (omega arith) added.outside)

    besides_2 : SameBesides x y2
    besides_2 = besides_then x y y2 besides_y (besides_days (free_place t 2) (DAY_WORDS.size - 4) y y2 (omega arith) (omega (arith, below)) behind)

    besides_3 : SameBesides x y3
    besides_3 = besides_then x y2 y3 besides_2 (besides_days (slot_place t + DAY_COUNT.place) DAY_COUNT.size y2 y3 (omega arith) (omega (arith, below)) (put_outside (slot_place t + DAY_COUNT.place) (to_be_bytes w16 (2 + length ws)) y2 (omega (arith, below, slot_2.sized))))

    pub besides_z : SameBesides x z
    besides_z = besides_then x y3 z besides_3 (besides_front LAST_KEPT.place LAST_KEPT.size y3 z (omega arith) (omega arith) z_same)

    has_y : HasOdometer odometer x y
    has_y = front_then odometer DAYS.place DAYS.size x x2 y has_0 (omega arith) added.outside

    has_2 : HasOdometer odometer x y2
    has_2 = front_then odometer (free_place t 2) (DAY_WORDS.size - 4) x y y2 has_y (omega arith) behind

    has_3 : HasOdometer odometer x y3
    has_3 = front_then odometer (slot_place t + DAY_COUNT.place) DAY_COUNT.size x y2 y3 has_2 (omega arith) (put_outside (slot_place t + DAY_COUNT.place) (to_be_bytes w16 (2 + length ws)) y2 (omega (arith, below, slot_2.sized)))

    odometer_z : odometer_at z ≡ odometer
    unfolding odometer_at
    odometer_z = number_after LAST_KEPT.place LAST_KEPT.size ODOMETER.place ODOMETER.size y3 z z_same (omega arith) ∙ has_3.odometer_is

    abbrev j' : Notes
    j' = notes_begun t (min (n + 1) DAY_SLOTS) coming

    low : Each (λ w. word_minute w ≤ m % 1440) (firsts ++ ws)
    low = (
      omega (arith, minute_of 0 (first_state (m % 1440) dn) 0 (lit≤ tt) (first_short (m % 1440) dn fits.driver) (lit≤ tt)),
      (
        omega (arith, minute_of 1 (first_state (m % 1440) cn) 0 (lit≤ tt) (first_short (m % 1440) cn fits.codriver) (lit≤ tt)),
        minutes_by 0 0 0 0 0 0 (omega arith) (omega arith) (omega arith) (omega arith) (λ u. u ≤ m % 1440) (m % 1440) (first_state (m % 1440) dn) (first_state (m % 1440) cn) dn cn (omega arith) fits.driver fits.codriver (omega arith),
      ),
    )

    states : (state_at 0 (m % 1440) (first_states (m % 1440) dn cn ++ further_words (m % 1440) dn cn) ≡ dn) × (state_at 1 (m % 1440) (first_states (m % 1440) dn cn ++ further_words (m % 1440) dn cn) ≡ cn)
    states = begun_at 0 m bare bare dn cn [] 0 0 [] tt refl tt refl refl fits.driver fits.codriver date odometer date_day (omega (arith, later))

    days_now : suc (length F) ≡ min (n + 1) DAY_SLOTS
    days_now = omega (arith, length-map F (day_at x2), ap length closed.ready.days, length-drop n0 D, closed.days)

    pub new_agrees : Agrees j' z
    unfolding odometer_at
    new_agrees = record {
      kept = slot_z.kept;
      odometer = odometer_z;
      pointer = omega (arith, slot_z.pointer_is, below);
      none = λ zero_kept. absurd (omega (arith, later));
      newest = λ any. (
        F,
        record {
          order_is = slot_z.order_is;
          next_is = slot_z.next_is;
          dense = closed.ready.dense;
          others = others;
          days = days_now;
          earlier = subst (Each (λ d. day_of d < m / 1440)) (sym (slot_z.older_are ∙ closed.ready.days)) (each_drop (λ d. day_of d < m / 1440) n0 D (each_before (k / 1440) (m / 1440) later D closed.all_now));
          date = slot_z.date_is;
          few = omega (arith, ws_few);
          count = slot_z.count_is;
          low = subst (Each (λ w. word_minute w ≤ m % 1440)) (sym slot_z.words_are) low;
          driver = ap (state_at 0 (m % 1440)) (slot_z.words_are ∙ new_spelled (m % 1440) dn cn) ∙ states.0;
          codriver = ap (state_at 1 (m % 1440)) (slot_z.words_are ∙ new_spelled (m % 1440) dn cn) ∙ states.1;
        },
      );
    }

    -- what was added is a moment of the adding
    y_good : IsGood x → IsGood y
    y_good good = adding_good y adding_y (closed.good good)
      where
        adding_y : IsAdding day_ring (new_head coming) x2 y
        adding_y = record {
          outside = added.outside;
          step = λ known. record { others = added.others known; pointer_is = inr (added.list known).pointer_is; points = added.points known; list = inr (inr (added.list known)); dense = added.dense known };
        }

    y2_good : IsGood x → IsGood y2
    y2_good good = behind_good y y2 t 2 below (lit≤ tt) behind count_y (y_good good)

    all_checks : (place : ℕ) → list_all passes (word_checks place [] (firsts ++ ws)) ≡ true
    all_checks place = by (m % 1440 == 0) refl
      where
        low_firsts : Each (λ w. word_minute w ≤ 0) firsts
        low_firsts = (
          omega (arith, minute_of 0 (first_state (m % 1440) dn) 0 (lit≤ tt) (first_short (m % 1440) dn fits.driver) (lit≤ tt)),
          (omega (arith, minute_of 1 (first_state (m % 1440) cn) 0 (lit≤ tt) (first_short (m % 1440) cn fits.codriver) (lit≤ tt)), tt),
        )

        by : (b : Bool) → (m % 1440 == 0) ≡ b → list_all passes (word_checks place [] (firsts ++ ws)) ≡ true
        by true is =
            let none : ws ≡ [] =
            ap (λ (b : Bool). changes (m % 1440) (cond b dn bare) (cond b cn bare) dn cn) is ∙ (λ i. change_same 0 (m % 1440) dn i ++ change 1 (m % 1440) cn cn) ∙ change_same 1 (m % 1440) cn in
            ap (λ (l : List ℕ). list_all passes (word_checks place [] (firsts ++ l))) none ∙ firsts_good place
        by false is =
            let isnt : m % 1440 ≢ 0 = grind (arith, nat_tests, is) in
            (changes_good place (m % 1440) (first_state (m % 1440) dn) (first_state (m % 1440) cn) dn cn firsts (omega arith) fits.driver fits.codriver (good_low place 0 (m % 1440) firsts (firsts_good place) (lit≤ tt) low_firsts (omega (arith, isnt)))).checks

    y3_good : IsGood x → IsGood y3
    y3_good good = counted_good y2 y3 t below (put_outside (slot_place t + DAY_COUNT.place) (to_be_bytes w16 (2 + length ws)) y2 (omega (arith, below, slot_2.sized))) (2 + length ws) slot_3.count_is (omega arith) (omega (arith, ws_few))
        (ap (λ (l : List ℕ). list_all passes (word_checks (slot_place t + DAY_WORDS.place) [] l)) slot_3.words_are ∙ all_checks (slot_place t + DAY_WORDS.place)) (y2_good good)

    z_good : IsGood x → IsGood z
    z_good good = mark_good y3 z z_same (omega (arith, slot_3.kept, slot_z.kept, later)) (omega (arith, slot_z.kept, fits.small))
        (or_right (last_kept z == 0) (has_day z (last_kept z / 1440)) (any_at (λ i. is_there day_ring z i && slot_date z i / 86400 == last_kept z / 1440) 0 DAY_SLOTS t (omega arith) (omega (arith, below))
        (and_join (is_there day_ring z t) (slot_date z t / 86400 == last_kept z / 1440) (index_there z F t slot_z.order_is) (eq_true (slot_date z t / 86400) (last_kept z / 1440) (omega (arith, slot_z.date_is, slot_z.kept)))))) (y3_good good)

    pub kept_decodes : Decodes x → Decodes z
    kept_decodes = still x z z_good

    at_2 : Moment y2
    at_2 = (
      record { side = before_mark it odometer x y2 has_2 (of_slot 2 firsts y2 (lit≤ tt) slot_2); outside = besides_2; decodes = still x y2 y2_good },
      between y2 (inr (slot_2.kept, more_days y2 (slot_written k 2 firsts y2 (lit≤ tt) slot_2))) spare_2,
    )

    at_3 : Moment y3
    at_3 = (
      record { side = before_mark it odometer x y3 has_3 (of_slot (2 + length ws) (firsts ++ ws) y3 (omega (arith, ws_few)) slot_3); outside = besides_3; decodes = still x y3 y3_good },
      between y3 (inl (all_days y3 (slot_written k (2 + length ws) (firsts ++ ws) y3 (omega (arith, ws_few)) slot_3))) spare_3,
    )

    at_z : Moment z
    at_z = (
      record { side = behind_mark it odometer x z slot_z.kept odometer_z kept_minutes; outside = besides_z; decodes = kept_decodes },
      between z (inl kept_days.days) z_spare,
    )

    counting_moment : (c : List ℕ) → DiffersBehind t 2 y c ⊎ IsPartlyWritten (slot_place t + DAY_COUNT.place) (to_be_bytes w16 (2 + length ws)) y2 c → Moment c
    counting_moment c (inl writing) =
        let at : IsSlot t F older t k date odometer 2 firsts c = slot_behind t below F others older t k date odometer 2 (lit≤ tt) firsts y slot_y c writing in (
          record {
            side = before_mark it odometer x c (front_then odometer (free_place t 2) (DAY_WORDS.size - 4) x y c has_y (omega arith) writing) (of_slot 2 firsts c (lit≤ tt) at);
            outside = besides_then x y c besides_y (besides_days (free_place t 2) (DAY_WORDS.size - 4) y c (omega arith) (omega (arith, below)) writing);
            decodes = still x c (λ good. behind_good y c t 2 below (lit≤ tt) writing count_y (y_good good));
          },
          between c (inr (at.kept, more_days c (slot_written k 2 firsts c (lit≤ tt) at))) (spare_behind t 2 y c (lit≤ tt) writing),
        )
    counting_moment c (inr counting) = ⊎_elim (λ absent. subst Moment (sym absent) at_2) (λ whole. subst Moment (sym whole) at_3) (counting.whole (lit≤ tt))

    mark_moment : (c : List ℕ) → IsPartway (mark m) y3 c → Moment c
    mark_moment c (inl keeping) = ⊎_elim (λ absent. subst Moment (sym absent) at_3) (λ whole. subst Moment (sym whole) at_z) (keeping.whole (lit≤ tt))
    mark_moment c (inr none) = absurd none

    -- and of those behind it
    pub further_moment : (c : List ℕ) → IsPartway (beginning t coming) y c → Moment c
    further_moment c here = ⊎_elim
        (λ part. counting_moment c (counted_moment t 2 ws y c below (omega (arith, ws_few)) slot_y.sized part))
        (λ part. mark_moment c (subst (λ (z : List ℕ). IsPartway (mark m) z c) (counted_put t 2 ws y) part))
        (partway_either (counted t 2 ws) (mark m) y c here)
