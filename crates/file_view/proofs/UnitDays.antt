-- The minutes of the days that are shown of a unit file.
use Rattle.std.proofs.Common.{◌≡◌, ◌∙◌, ℕ, zero, suc, ◌+◌, ◌-◌, ◌*◌, ◌/◌, ◌%◌, ◌^◌, ◌<◌, ◌≤◌, Bool, true, false, cond, Option, Some, None, option_map, List, [], ◌∷◌, ◌++◌, length, map, take, drop, get_or, refl, ap, sym, subst, arith}
use Rattle.std.specs.Prelude.{flat_map, ◌==◌}
use Rattle.std.specs.List.{range_with_len, AllByRecursion}
use Rattle.std.proofs.lemmas.List.{take_more, flat_map_more}
use Rattle.std.proofs.lemmas.List.FromFn.{get_or-map-range_with_len, length-map-range_with_len}
use Rattle.activity_codec.proofs.ByTest.{by_test}
use Rattle.card_layout.specs.Images.{number_at}
use Rattle.activity_codec.specs.declared.words.Change.{Change}
use Rattle.activity_codec.specs.Words.{change_of}
use Rattle.card_retention.specs.Entries.{latest}
use Rattle.unit_model.specs.Days.{StoredDay, UnitMinute, state_at, state_in, minute_at, minutes_shown, is_crew_in, day_of as stored_day_of}
use Rattle.message_model.specs.Messages.{Message, DayMessage}
use Rattle.message_model.specs.Showing.{time_in, told_day, day_minutes}
use Rattle.view_model.specs.declared.State.{State}
use Rattle.view_model.specs.declared.UnitShown.{UnitShown}
use Rattle.view_model.specs.declared.Viewed.{Viewed}
use Rattle.view_model.specs.Lines.{day_of_minute}
use Rattle.tacho_types.specs.declared.calendar.TheConstants.{DAYS}
use Rattle.file_view.specs.declared.unit.DayAt.{DayAt}
use Rattle.file_view.specs.Histories.{minute_shown}
use Rattle.file_view.specs.Showing.{before_last}
use Rattle.file_view.specs.UnitFiles.{days_told}
use Rattle.file_view.specs.UnitShowing.{IsStoredAt, AreStored, minutes_told, minutes_of_day, slot_words, state_by, crew_by}
use Rattle.file_view.proofs.Growing.{viewed, row}
use Rattle.file_view.proofs.Telling.{rest_is}
use Rattle.file_view.proofs.UnitFronts.{stored_at, stored_count, minutes_by_days}
use Rattle.file_view.proofs.UnitStates.{state_shown, crew_is}

-- the minutes of messages of days
abbrev pub days_minutes : Option ℕ → List DayMessage → List UnitMinute
days_minutes time ms = flat_map (λ (m : DayMessage). day_minutes time (told_day m)) ms

-- the days behind a place
stored_drop : (bytes : List ℕ) (n : ℕ) (ds : List DayAt) (ms : List DayMessage) → AreStored bytes ds ms → AreStored bytes (drop n ds) (drop n ms)
stored_drop bytes zero ds ms are = are
stored_drop bytes (suc n) [] ms are = ap (λ (l : List DayMessage). drop (suc n) l) are
stored_drop bytes (suc n) (d ∷ ds) [] are = absurd are
stored_drop bytes (suc n) (d ∷ ds) (m ∷ ms) are = stored_drop bytes n ds ms are.1

pub shown_stored : (bytes : List ℕ) (A : List DayAt) (ms : List DayMessage) → AreStored bytes A ms → (from k : ℕ) (d : DayAt) (m : DayMessage) → k < length (take (length A - from) (drop from A))
    → IsStoredAt bytes (get_or (take (length A - from) (drop from A)) k d) (get_or (drop from ms) k m) × (k < length (drop from ms))
shown_stored bytes A ms are from k d m low =
    let dropped = stored_drop bytes from A ms are in
    let below : k < length (drop from A) = omega (arith, low, ap (λ (l : List DayAt). length l) (rest_is A from)) in (
      subst (λ (l : List DayAt). IsStoredAt bytes (get_or l k d) (get_or (drop from ms) k m)) (sym (rest_is A from)) (stored_at bytes (drop from A) (drop from ms) dropped k below d m),
      omega (arith, below, stored_count bytes (drop from A) (drop from ms) dropped),
    )

pub shown_stored_count : (bytes : List ℕ) (A : List DayAt) (ms : List DayMessage) → AreStored bytes A ms → (from : ℕ) → length (take (length A - from) (drop from A)) ≡ length (drop from ms)
shown_stored_count bytes A ms are from = ap (λ (l : List DayAt). length l) (rest_is A from) ∙ stored_count bytes (drop from A) (drop from ms) (stored_drop bytes from A ms are)

-- one day more
pub unit_step : (time : Option ℕ) (ms : List DayMessage) (k : ℕ) (m : DayMessage) → k < length ms → days_minutes time (take k ms) ++ day_minutes time (told_day (get_or ms k m)) ≡ days_minutes time (take (k + 1) ms)
unit_step time ms k m low =
    flat_map_more (λ (x : DayMessage). day_minutes time (told_day x)) [] (take k ms) (get_or ms k m)
    ∙ sym (ap (λ (l : List DayMessage). days_minutes time l) (take_more ms k m low))

-- all days that are shown
pub unit_told_all : (last : Option ℕ) (messages : List Message) (time : Option ℕ) (from : ℕ) → time ≡ time_in messages → from ≡ before_last last (length (days_told messages))
    → days_minutes time (drop from (days_told messages)) ≡ minutes_told last messages
unit_told_all None messages time from time_is from_is =
    ap (λ (o : Option ℕ). days_minutes o (drop from (days_told messages))) time_is
    ∙ ap (λ (n : ℕ). days_minutes (time_in messages) (drop n (days_told messages))) from_is
    ∙ sym (minutes_by_days (time_in messages) messages)
unit_told_all (Some n) messages time from time_is from_is =
    ap (λ (o : Option ℕ). days_minutes o (drop from (days_told messages))) time_is
    ∙ ap (λ (n : ℕ). days_minutes (time_in messages) (drop n (days_told messages))) from_is

-- each minute lies on a day that a time of four bytes can name
abbrev pub Named : List UnitMinute → Type 0
Named minutes = AllByRecursion (λ (m : Viewed UnitShown). day_of_minute m.minute < DAYS) (map minute_shown minutes)

named_append : (xs ys : List UnitMinute) → Named xs → Named ys → Named (xs ++ ys)
named_append [] ys one other = other
named_append (x ∷ xs) ys one other = (one.0, named_append xs ys one.1 other)

named_from : (d : StoredDay) → d.date < 2 ^ 32 → (n t : ℕ) → t + n ≤ 1440 → Named (map (minute_at d) (range_with_len t n))
named_from d low zero t le = tt
named_from d low (suc n) t le = (omega (arith, low, le), named_from d low n (t + 1) (omega (arith, le)))

few_shown : (kept day : ℕ) → minutes_shown kept day ≤ 1440
few_shown kept day = by_test (day == kept / 1440) (λ yes. rw yes (omega arith)) (λ no. rw no (omega arith))

day_named : (time : Option ℕ) (d : StoredDay) → d.date < 2 ^ 32 → Named (day_minutes time d)
day_named None d low = named_from d low 1440 0 (omega arith)
day_named (Some time) d low = named_from d low (minutes_shown (time / 60) (stored_day_of d)) 0 (omega (arith, few_shown (time / 60) (stored_day_of d)))

pub days_named : (bytes : List ℕ) (time : Option ℕ) (ds : List DayAt) (ms : List DayMessage) → AreStored bytes ds ms → Named (days_minutes time ms)
days_named bytes time [] ms are = subst (λ (l : List DayMessage). Named (days_minutes time l)) (sym are) tt
days_named bytes time (d ∷ ds) [] are = absurd are
days_named bytes time (d ∷ ds) (m ∷ ms) are = named_append (day_minutes time (told_day m)) (days_minutes time ms) (day_named time (told_day m) are.0.is.date.0) (days_named bytes time ds ms are.1)

pub shown_named : (bytes : List ℕ) (time : Option ℕ) (ds : List DayAt) (ms : List DayMessage) → AreStored bytes ds ms → (from : ℕ) → Named (days_minutes time (drop from ms))
shown_named bytes time ds ms are from = days_named bytes time (drop from ds) (drop from ms) (stored_drop bytes from ds ms are)

-- the first minutes of a day, and more
abbrev pub first_minutes : DayMessage → ℕ → List UnitMinute
first_minutes m n = map (minute_at (told_day m)) (range_with_len 0 n)

more_minutes : {X : Type 0} → (f : ℕ → X) (n more t : ℕ) → map f (range_with_len t (n + more)) ≡ map f (range_with_len t n) ++ map f (range_with_len (t + n) more)
more_minutes {X} f zero more t = ap (λ (k : ℕ). map f (range_with_len t k)) (omega arith) ∙ ap (λ (k : ℕ). map f (range_with_len k more)) (omega arith)
more_minutes {X} f (suc n) more t =
    let long : suc n + more ≡ suc (n + more) = omega arith in
    ap (λ (k : ℕ). map f (range_with_len t k)) long
    ∙ ap (λ (l : List X). f t ∷ l) (more_minutes f n more (t + 1) ∙ ap (λ (k : ℕ). map f (range_with_len (t + 1) n) ++ map f (range_with_len k more)) (omega arith))

pub minutes_more : (m : DayMessage) (t end : ℕ) → t ≤ end → first_minutes m end ≡ first_minutes m t ++ map (minute_at (told_day m)) (range_with_len t (end - t))
minutes_more m t end le =
    let long : end ≡ t + (end - t) = omega (arith, le) in
    ap (λ (n : ℕ). first_minutes m n) long ∙ more_minutes (minute_at (told_day m)) t (end - t) 0
    ∙ ap (λ (k : ℕ). first_minutes m t ++ map (minute_at (told_day m)) (range_with_len k (end - t))) (omega arith)

pub day_whole : (m : DayMessage) (date : ℕ) (time : Option ℕ) (n : ℕ) → date ≡ m.date → n ≡ minutes_of_day date time → first_minutes m n ≡ day_minutes time (told_day m)
day_whole m date None n date_is n_is = ap (λ (k : ℕ). first_minutes m k) n_is
day_whole m date (Some time) n date_is n_is = ap (λ (k : ℕ). first_minutes m k) (n_is ∙ ap (λ (d : ℕ). minutes_shown (time / 60) (d / 86400)) date_is)

-- what is shown of a minute by the changes that decide it
abbrev pub shown_by : Option Change → Option Change → UnitShown
shown_by driver codriver = record { driver = state_by driver; codriver = state_by codriver; crew = crew_by driver }

minute_is : (m : DayMessage) (first t minute : ℕ) (driver codriver : Option Change) → first ≡ m.date / 60 → m.date % 86400 ≡ 0 → minute ≡ first + t
    → option_map change_of (latest (slot_words 0 m.words) t) ≡ driver → option_map change_of (latest (slot_words 1 m.words) t) ≡ codriver
    → minute_shown (minute_at (told_day m) t) ≡ viewed (shown_by driver codriver) minute
minute_is m first t minute driver codriver first_is whole there driver_is codriver_is =
    let place : 1440 * (m.date / 86400) + t ≡ minute = omega (arith, first_is, whole, there) in
    let of : State → State → Bool → Viewed UnitShown = λ a b crew. record { minute = 1440 * (m.date / 86400) + t; shown = record { driver = a; codriver = b; crew = crew } } in
    ap (λ (a : State). of a (state_in (state_at 1 t m.words)) (is_crew_in (state_at 0 t m.words))) (state_shown 0 t m.words ∙ ap state_by driver_is)
    ∙ ap (λ (b : State). of (state_by driver) b (is_crew_in (state_at 0 t m.words))) (state_shown 1 t m.words ∙ ap state_by codriver_is)
    ∙ ap (λ (crew : Bool). of (state_by driver) (state_by codriver) crew) (crew_is t m.words ∙ ap crew_by driver_is)
    ∙ ap (λ (n : ℕ). viewed (shown_by driver codriver) n) place

-- and of minutes in a row that the same changes decide
pub rows_are : (m : DayMessage) (first : ℕ) → first ≡ m.date / 60 → m.date % 86400 ≡ 0 → (driver codriver : Option Change) (n t minute : ℕ) → minute ≡ first + t
    → ((k : ℕ) → t ≤ k → k < t + n → option_map change_of (latest (slot_words 0 m.words) k) ≡ driver)
    → ((k : ℕ) → t ≤ k → k < t + n → option_map change_of (latest (slot_words 1 m.words) k) ≡ codriver)
    → map minute_shown (map (minute_at (told_day m)) (range_with_len t n)) ≡ row (shown_by driver codriver) minute n
rows_are m first first_is whole driver codriver zero t minute is own other = refl
rows_are m first first_is whole driver codriver (suc n) t minute is own other =
    ap (λ (v : Viewed UnitShown). v ∷ map minute_shown (map (minute_at (told_day m)) (range_with_len (t + 1) n)))
    (minute_is m first t minute driver codriver first_is whole is (own t (omega arith) (omega arith)) (other t (omega arith) (omega arith)))
    ∙ ap (λ (l : List (Viewed UnitShown)). viewed (shown_by driver codriver) minute ∷ l)
    (rows_are m first first_is whole driver codriver n (t + 1) (minute + 1) (omega (arith, is)) (λ k le lt. own k (omega (arith, le)) (omega (arith, lt))) (λ k le lt. other k (omega (arith, le)) (omega (arith, lt))))

-- a word of a day, and its slot
pub stored_word : (bytes : List ℕ) (day : DayAt) (m : DayMessage) → IsStoredAt bytes day m → (i : ℕ) → i < day.words → number_at bytes (day.place + 2 * i) 2 ≡ get_or m.words i 0
stored_word bytes day m is i low =
    sym (ap (λ (l : List ℕ). get_or l i 0) is.words ∙ get_or-map-range_with_len (λ (j : ℕ). number_at bytes (day.place + 2 * j) 2) 0 day.words i i 0 low (omega arith))

pub stored_words : (bytes : List ℕ) (day : DayAt) (m : DayMessage) → IsStoredAt bytes day m → length m.words ≡ day.words
stored_words bytes day m is = ap (λ (l : List ℕ). length l) is.words ∙ length-map-range_with_len (λ (j : ℕ). number_at bytes (day.place + 2 * j) 2) 0 day.words

pub driver_word : (w : ℕ) (ws : List ℕ) → w < 32768 → (slot_words 0 (w ∷ ws) ≡ w ∷ slot_words 0 ws) × (slot_words 1 (w ∷ ws) ≡ slot_words 1 ws)
driver_word w ws low =
    let slot : w / 32768 % 2 ≡ 0 = omega (arith, low) in
    let own : (w / 32768 % 2 == 0) ≡ true = ap (λ (n : ℕ). n == 0) slot in
    let other : (w / 32768 % 2 == 1) ≡ false = ap (λ (n : ℕ). n == 1) slot in (
      ap (λ (b : Bool). cond b (w ∷ slot_words 0 ws) (slot_words 0 ws)) own,
      ap (λ (b : Bool). cond b (w ∷ slot_words 1 ws) (slot_words 1 ws)) other,
    )

pub codriver_word : (w : ℕ) (ws : List ℕ) → 32768 ≤ w → w < 65536 → (slot_words 0 (w ∷ ws) ≡ slot_words 0 ws) × (slot_words 1 (w ∷ ws) ≡ w ∷ slot_words 1 ws)
codriver_word w ws high low =
    let slot : w / 32768 % 2 ≡ 1 = omega (arith, high, low) in
    let other : (w / 32768 % 2 == 0) ≡ false = ap (λ (n : ℕ). n == 0) slot in
    let own : (w / 32768 % 2 == 1) ≡ true = ap (λ (n : ℕ). n == 1) slot in (
      ap (λ (b : Bool). cond b (w ∷ slot_words 0 ws) (slot_words 0 ws)) other,
      ap (λ (b : Bool). cond b (w ∷ slot_words 1 ws) (slot_words 1 ws)) own,
    )
