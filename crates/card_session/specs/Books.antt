-- What a session makes of a card's days and of its vehicle entries (profile): entry by entry, and by the word that
-- closes.
use Rattle.std.specs.Prelude.{ℕ, suc, ◌+◌, ◌-◌, ◌*◌, ◌/◌, ◌%◌, min, Bool, true, false, ◌&&◌, Option, Some, None, Result}
use Rattle.std.specs.Prelude.{Ok, Err, List, [], ◌∷◌, ◌++◌, length, bytes_eq, nat_eq, if◌then◌else◌}
use Rattle.activity_codec.specs.declared.values.Activity.{Activity}
use Rattle.activity_codec.specs.declared.values.Activity.TheVariants.{Rest}
use Rattle.activity_codec.specs.declared.values.Slot.TheVariants.{Driver}
use Rattle.activity_codec.specs.declared.entries.Entry.{Entry}
use Rattle.activity_codec.specs.Words.{word_of, word_slot}
pub use Rattle.activity_codec.specs.Words.{entry_word}
use Rattle.tacho_types.specs.declared.texts.Registration.{Registration}
use Rattle.tacho_types.specs.declared.decimal.Bcd2.{Bcd2}
use Rattle.tacho_types.specs.declared.decimal.BadValue.{BadValue}
use Rattle.tacho_types.specs.Decimal.{bcd2_of, bcd2_bytes}
use Rattle.card_files.specs.declared.vehicle.Vehicle.{Vehicle}
use Rattle.card_days.specs.card_model.Days.{Day, last_word}
use Rattle.card_days.specs.card_model.Changes.{date_of, fitting, with_newest, with_word, with_km, new_day}
use Rattle.card_days.specs.card_model.Changes.{counter_after}
use Rattle.card_validity.specs.card_retention.Expected.{is_newest}
use Rattle.card_validity.specs.card_retention.Shown.{sizes, is_open, entry_state, with_closing}
use Rattle.card_session.specs.Vehicles.{Vehicles, last_use_in, renewed, with_vehicle}

-- the days of a card and its vehicle entries
pub record Book : Type 0 where
  pub days : List Day
  pub vehicles : Vehicles

-- the minute up to which the card's minutes count
abbrev pub mark_of : Book → ℕ
mark_of b = last_use_in b.vehicles / 60

-- the newest day's latest word, 0 without a day
abbrev pub latest_of : List Day → ℕ
latest_of [] = 0
latest_of (d ∷ []) = last_word d.words
latest_of (d ∷ e ∷ ds) = latest_of (e ∷ ds)

-- the word that closes at a minute of the day: not inserted, unknown, of the slot of the latest word
abbrev pub closing_word : (minute : ℕ) → Activity → (latest : ℕ) → ℕ
closing_word minute act latest = word_of
    (record { slot = word_slot latest; crew_or_known = false; absent = true; act = act; minute = minute % 1440 })

-- the days with a word more on the newest, for which the oldest go as they must
abbrev pub with_change : (size w : ℕ) → List Day → List Day
with_change size w days = with_newest (with_word w) (fitting (size - 2) days)

-- the closing word at the minute after the mark, where the latest word is an entry's and that minute lies in the newest
-- day
abbrev pub closed_days : (size mark : ℕ) → Activity → List Day → List Day
closed_days size mark act days = if is_open mark days
    then with_change size (closing_word (suc mark) act (latest_of days)) days else days

-- before an entry it stands only where the entry does not come at once
abbrev pub gap_closed : (size mark next : ℕ) → List Day → List Day
gap_closed size mark next days = with_closing size (closing_word (suc mark) Rest (latest_of days)) mark next days

-- the word that begins a day before its first entry: the driver's slot, not inserted, unknown, rest
abbrev pub bare_word : ℕ
bare_word = word_of (record { slot = Driver; crew_or_known = false; absent = true; act = Rest; minute = 0 })

-- the words that begin the day of an entry
abbrev pub day_words : Entry → List ℕ
day_words e = if nat_eq (e.minute % 1440) 0 then entry_word e ∷ [] else bare_word ∷ entry_word e ∷ []

-- the newest day tells an entry's state, where its latest word does but for the minute
abbrev pub tells_state : Entry → List Day → Bool
tells_state e days = nat_eq (latest_of days / 2048) (entry_state e)

-- the days with the day of an entry, for which the oldest go as they must
abbrev pub with_new_day : (size : ℕ) → Entry → List Day → List Day
with_new_day size e days = fitting (size - (12 + 2 * length (day_words e))) days
    ++ new_day days (date_of e.minute) (day_words e) ∷ []

-- the days with an entry: as they are where the newest day tells its state, else with a word more, or with its day
abbrev pub entered_days : (size : ℕ) → Entry → List Day → List Day
entered_days size e days =
    if is_newest (e.minute / 1440) (sizes days)
    then (if tells_state e days then days else with_change size (entry_word e) days)
    else with_new_day size e days

-- a distance, so many km more; it stays at 9999 once there
abbrev pub km_after : ℕ → ℕ → ℕ
km_after more km = min 9999 (km + more)

-- the days, of which the newest has so many km more
abbrev pub travelled : ℕ → List Day → List Day
travelled more days = with_newest (λ d. with_km (km_after more d.km) d) days

-- the number behind one that was read as a counter; 1 where that is not decimal
abbrev pub count_behind : Result Bcd2 BadValue → ℕ
count_behind (Ok count) = counter_after count.0
count_behind (Err bad) = 1

-- the number of the next vehicle entry: behind that of the newest one, 1 without one
abbrev pub next_count : Option Vehicle → ℕ
next_count None = 1
next_count (Some v) = count_behind (bcd2_of v.counter)

-- the counter of the next vehicle entry, in two bytes
abbrev pub vehicle_counter : Option Vehicle → List ℕ
vehicle_counter newest = bcd2_bytes (record { 0 = next_count newest })

-- a vehicle entry that begins with a minute
abbrev pub begun_vehicle : (registration : Registration) → (odometer minute : ℕ) → (counter : List ℕ) → Vehicle
begun_vehicle registration odometer minute counter =
    record {
      odometer_begin = record { 0 = odometer };
      odometer_end = record { 0 = odometer };
      first_use = record { 0 = 60 * minute };
      last_use = record { 0 = 60 * minute };
      registration = registration;
      counter = counter;
    }

-- the newest vehicle entry goes on where it has this registration and begins in the minute's day
abbrev pub goes_on_in : Registration → (minute : ℕ) → Vehicle → Bool
goes_on_in registration minute v = bytes_eq v.registration.0 registration.0
    && nat_eq (v.first_use.0 / 86400) (minute / 1440)

-- the newest vehicle entry with another odometer at its end and another last use
abbrev pub used_until : (odometer seconds : ℕ) → Vehicle → Vehicle
used_until odometer seconds v = record v { odometer_end = record { 0 = odometer }; last_use = record { 0 = seconds } }

-- where there is one
abbrev pub goes_on_with : Registration → (minute : ℕ) → Option Vehicle → Bool
goes_on_with registration minute None = false
goes_on_with registration minute (Some v) = goes_on_in registration minute v

-- a vehicle entry with another odometer value at its end
abbrev pub measured : (odometer : ℕ) → Vehicle → Vehicle
measured odometer v = record v { odometer_end = record { 0 = odometer } }

-- a vehicle entry with another last use
abbrev pub used : (seconds : ℕ) → Vehicle → Vehicle
used seconds v = record v { last_use = record { 0 = seconds } }

-- the vehicle entries, of which the newest has another odometer value at its end
abbrev pub measured_to : (odometer : ℕ) → Vehicles → Vehicles
measured_to odometer v = renewed (measured odometer) v

-- the vehicle entries, of which the newest has another last use
abbrev pub last_used : (seconds : ℕ) → Vehicles → Vehicles
last_used seconds v = renewed (used seconds) v

-- THE VEHICLE ENTRIES WITH A MINUTE: the newest one goes on, or a new one stands behind all others.
abbrev pub vehicles_with : Registration → (odometer minute : ℕ) → Vehicles → Vehicles
vehicles_with registration odometer minute v =
    if goes_on_with registration minute v.newest
    then renewed (used_until odometer (60 * minute)) v
    else with_vehicle (begun_vehicle registration odometer minute (vehicle_counter v.newest)) v

-- An entry more, so many km behind the one before.
abbrev pub with_entry : (size : ℕ) → Registration → (odometer more : ℕ) → Book → Entry → Book
with_entry size registration odometer more b e =
    record {
      days = travelled more (entered_days size e (gap_closed size (mark_of b) e.minute b.days));
      vehicles = vehicles_with registration odometer e.minute b.vehicles;
    }

-- The closing word of an insertion or of a withdrawal, and the end mark at it.
abbrev pub closed : (size : ℕ) → Activity → Book → Book
closed size act b =
    if is_open (mark_of b) b.days
    then record {
      days = closed_days size (mark_of b) act b.days;
      vehicles = last_used (60 * suc (mark_of b)) b.vehicles;
    }
    else b
