-- Worked rows of a session: what each minute makes of the days and of the vehicle entries of a card.
use Rattle.std.proofs.Common.{◌≡◌, ◌+◌, ◌*◌, ℕ, List, [], ◌∷◌, false, Some, None, refl}
use Rattle.activity_codec.specs.declared.values.Activity.TheVariants.{Work}
use Rattle.activity_codec.specs.declared.values.Slot.TheVariants.{Driver}
use Rattle.activity_codec.specs.declared.entries.Entry.{Entry}
use Rattle.tacho_types.specs.declared.texts.Registration.{Registration}
use Rattle.card_files.specs.declared.vehicle.Vehicle.{Vehicle}
use Rattle.card_days.specs.card_model.Days.{Day}
use Rattle.card_session.specs.Vehicles.{Vehicles, with_room}
use Rattle.card_session.specs.Books.{Book, begun_vehicle, vehicles_with, with_entry, closed}

-- the first minute of 2010-03-01
abbrev pub midnight : ℕ
midnight = 21123360

-- that day, with this counter, these km and these words
abbrev pub day : (km : ℕ) → List ℕ → Day
day km words = record { date = 1267401600; counter = 1; km = km; words = words }

abbrev pub this_vehicle : Registration
this_vehicle = record { 0 = 13 ∷ 1 ∷ 68 ∷ 69 ∷ 77 ∷ 79 ∷ 32 ∷ 32 ∷ 32 ∷ 32 ∷ 32 ∷ 32 ∷ 32 ∷ 32 ∷ 32 ∷ [] }

-- a vehicle entry of it, used from minute 600 of the day on, with the counter 1
abbrev pub in_use : (odometer minute : ℕ) → Vehicle
in_use odometer minute =
    record {
      odometer_begin = record { 0 = 100 };
      odometer_end = record { 0 = odometer };
      first_use = record { 0 = 60 * (midnight + 600) };
      last_use = record { 0 = 60 * (midnight + minute) };
      registration = this_vehicle;
      counter = 0 ∷ 1 ∷ [];
    }

-- the first entry in a ring of two places
abbrev pub using : (odometer minute : ℕ) → Vehicles
using odometer minute = record { newest = Some (in_use odometer minute); ring = None ∷ Some (in_use odometer minute) ∷ [] }

-- work in the driver's slot
abbrev pub work : ℕ → Entry
work minute = record { minute = midnight + minute; slot = Driver; crew = false; act = Work }

-- a new card, then its first minute: a day, the word before the first entry and that of the entry, and a vehicle entry
abbrev start : Book
start = record { days = []; vehicles = record { newest = None; ring = None ∷ None ∷ [] } }

abbrev pub first : Book
first = record { days = day 0 (0x2000 ∷ 0x1258 ∷ []) ∷ []; vehicles = using 100 600 }

first_minute : with_entry 5544 this_vehicle 100 0 start (work 600) ≡ first
first_minute = refl

-- the next minute, of the same state, and 1 km
abbrev second : Book
second = record { days = day 1 (0x2000 ∷ 0x1258 ∷ []) ∷ []; vehicles = using 101 601 }

next_minute : with_entry 5544 this_vehicle 101 1 first (work 601) ≡ second
next_minute = refl

-- a minute later a gap ends: the word that closes it, and the state again
abbrev third : Book
third = record { days = day 3 (0x2000 ∷ 0x1258 ∷ 0x225A ∷ 0x125B ∷ []) ∷ []; vehicles = using 103 603 }

minute_behind_a_gap : with_entry 5544 this_vehicle 103 2 second (work 603) ≡ third
minute_behind_a_gap = refl

-- the withdrawal, with work selected
abbrev withdrawn : Book
withdrawn = record { days = day 3 (0x2000 ∷ 0x1258 ∷ 0x225A ∷ 0x125B ∷ 0x325C ∷ []) ∷ []; vehicles = using 103 604 }

withdrawal : closed 5544 Work third ≡ withdrawn
withdrawal = refl

-- ---- more vehicles

abbrev other_vehicle : Registration
other_vehicle = record { 0 = 13 ∷ 1 ∷ 68 ∷ 69 ∷ 77 ∷ 79 ∷ 50 ∷ 32 ∷ 32 ∷ 32 ∷ 32 ∷ 32 ∷ 32 ∷ 32 ∷ 32 ∷ [] }

-- another vehicle on the same day: a new entry, with the next counter, behind the one before
abbrev another : Vehicle
another = begun_vehicle other_vehicle 500 (midnight + 700) (0 ∷ 2 ∷ [])

abbrev both : Vehicles
both = record { newest = Some another; ring = Some (in_use 103 604) ∷ Some another ∷ [] }

another_vehicle : vehicles_with other_vehicle 500 (midnight + 700) (using 103 604) ≡ both
another_vehicle = refl

-- the same vehicle a day later: a new entry too, for which the oldest gives way
abbrev later : Vehicle
later = begun_vehicle other_vehicle 501 (midnight + 1500) (0 ∷ 3 ∷ [])

another_day : vehicles_with other_vehicle 501 (midnight + 1500) both ≡ record { newest = Some later; ring = Some another ∷ Some later ∷ [] }
another_day = refl

-- before it stands there, its place may be free
a_free_place : with_room both ≡ record { newest = Some another; ring = None ∷ Some another ∷ [] }
a_free_place = refl
