-- Worked rows of what the image of a card tells: its holder, its session, its vehicle entries, and what stays make of it.
use Rattle.std.proofs.Common.{◌≡◌, ℕ, ◌+◌, Bool, true, false, Option, Some, None, List, [], ◌∷◌, ◌++◌, map, length, replicate, refl}
use Rattle.activity_codec.specs.declared.values.Slot.{Slot}
use Rattle.activity_codec.specs.declared.values.Slot.TheVariants.{Driver, CoDriver}
use Rattle.activity_codec.specs.declared.values.Activity.{Activity}
use Rattle.activity_codec.specs.declared.values.Activity.TheVariants.{Rest, Available, Work, Driving}
use Rattle.activity_codec.specs.declared.entries.Entry.{Entry}
use Rattle.activity_codec.specs.declared.entries.Manual.{Manual}
use Rattle.tacho_types.specs.declared.texts.Registration.{Registration}
use Rattle.tacho_types.specs.declared.numbers.Odometer.{Odometer}
use Rattle.card_layout.specs.Application.{application_of}
use Rattle.card_layout.specs.Files.{files_of}
use Rattle.card_files.specs.declared.current_use.CurrentUse.{CurrentUse}
use Rattle.card_files.specs.declared.vehicle.Vehicle.{Vehicle}
use Rattle.card_files.specs.CurrentUses.{current_use_of}
use Rattle.card_files.specs.Vehicles.{vehicle_of as vehicle_told}
use Rattle.card_model.specs.Days.{Day}
use Rattle.card_model.specs.Walk.{days_of}
use Rattle.card_retention.specs.Entries.{day_entries}
use Rattle.card_retention.specs.Expected.{WordDay, counted}
use Rattle.card_image.specs.Fields.{current_use, newest_vehicle, card_days, card_number}
use Rattle.card_image.specs.View.{card_view}
use Rattle.card_image.specs.Own.{own_sizes, own_view, own_number, expected_with}
use Rattle.gated_ring.specs.Ring.{indices}
use Rattle.card_session.specs.declared.session.Kept.{Kept}
use Rattle.card_session.specs.Vehicles.{Vehicles, ring_round}
use Rattle.card_session.specs.Books.{Book}
use Rattle.card_session.specs.Sessions.{book_of}
use Rattle.card_string.specs.Deeds.{Deed, Keep, Enter, Close, Cut}
use Rattle.run_note_record.specs.Opened.{session_in}
use Rattle.run_note_record.specs.Sessions.{session_told}
use Rattle.run_note_record.specs.Uses.{vehicle_of, use_in}
use Rattle.run_promise.specs.Found.{registration_of}
use Rattle.run_devices.specs.Measured.{reading_at, vehicles_by}
use Rattle.run_devices.specs.Registered.{newest_minute_on, vehicles_before, at_first}
use Rattle.run_devices.specs.Strung.{identification_of}
use Rattle.run_minutes.specs.CardDeeds.{made_by, is_open_in, enters, keeps, owed_keeps, opens}
use Rattle.worked_promises.proofs.Images.{card, open_card, unit, identification, other_vehicle, own_vehicle, newest_entry, day_with}

-- ---- the current use

-- closed, and open since 00:01:00
no_session : session_in card ≡ 0
unfolding own_sizes application_of current_use current_use_of files_of
no_session = refl

session_since : session_in open_card ≡ 1267401660
unfolding own_sizes application_of current_use current_use_of files_of
session_since = refl

-- by the sizes of another image of the same card
session_by_other_sizes : session_told card open_card ≡ 1267401660
unfolding own_sizes application_of current_use current_use_of files_of
session_by_other_sizes = refl

use_of_the_card : use_in open_card ≡ record { session = record { 0 = 1267401660 }; registration = other_vehicle }
unfolding own_sizes application_of current_use current_use_of files_of
use_of_the_card = refl

open_or_not : is_open_in (use_in card) ∷ is_open_in (use_in open_card) ∷ [] ≡ false ∷ true ∷ []
unfolding own_sizes application_of current_use current_use_of files_of
open_or_not = refl

-- ---- the vehicle of the unit

vehicle_of_the_unit : vehicle_of unit ≡ own_vehicle
vehicle_of_the_unit = refl

registration_of_the_unit : registration_of unit ≡ own_vehicle
registration_of_the_unit = refl

-- ---- its holder

identification_of_the_card : identification_of card ≡ identification
unfolding own_sizes application_of files_of
identification_of_the_card = refl

-- ---- its vehicle entries

-- the place that the next entry takes is free; the newest stands before it
both_places_of_vehicles : vehicles_by (own_sizes card) card ≡ record { newest = Some newest_entry; ring = None ∷ Some newest_entry ∷ [] }
unfolding own_sizes application_of files_of book_of newest_vehicle ring_round indices vehicle_told
both_places_of_vehicles = refl

-- its newest minute is that of the closing word, 00:10
newest_minute_of_the_card : newest_minute_on card ≡ 21123370
unfolding own_sizes application_of files_of own_view card_view card_days days_of newest_vehicle indices vehicle_told current_use current_use_of day_entries
newest_minute_of_the_card = refl

before_the_run : vehicles_before (own_sizes card) own_vehicle card
    ≡ record { registration = own_vehicle; vehicles = record { newest = Some newest_entry; ring = None ∷ Some newest_entry ∷ [] }; minute = 21123370 }
unfolding own_sizes application_of files_of own_view card_view card_days days_of newest_vehicle indices vehicle_told current_use current_use_of day_entries book_of ring_round
before_the_run = refl

first_of_two_places : at_first (Some newest_entry ∷ None ∷ []) ≡ Some newest_entry
first_of_two_places = refl

first_of_no_place : at_first [] ≡ None
first_of_no_place = refl

reading : reading_at 21123840 1000 ≡ record { minute = 21123840; odometer = 1000 }
reading = refl

-- ---- its days

-- The day has two words. Work at 08:00 brings one more, and its closing word one, where the next entry is not at 08:01.
days_to_come : expected_with card 21123841 (record { minute = 21123840; slot = Driver; crew = false; act = Work } ∷ []) ≡ record { day = 14669; words = 3 } ∷ []
unfolding expected_with counted own_sizes application_of files_of own_view card_view card_days days_of newest_vehicle indices vehicle_told current_use current_use_of day_entries
days_to_come = refl

days_to_come_closed : expected_with card 21123850 (record { minute = 21123840; slot = Driver; crew = false; act = Work } ∷ []) ≡ record { day = 14669; words = 4 } ∷ []
unfolding expected_with counted own_sizes application_of files_of own_view card_view card_days days_of newest_vehicle indices vehicle_told current_use current_use_of day_entries
days_to_come_closed = refl

-- ---- what is done on it

-- two minutes of the driver, with the odometer at their ends: work until 08:00, driving from then on
abbrev entry : (minute : ℕ) → Activity → Entry
entry minute act = record { minute = minute; slot = Driver; crew = false; act = act }

abbrev kept : (minute : ℕ) → Activity → (odometer : ℕ) → Kept
kept minute act odometer = record { entry = entry minute act; odometer = record { 0 = odometer } }

abbrev by_hand : (minute : ℕ) → Manual
by_hand minute = record { minute = minute; slot = Driver; act = Work }

abbrev keep : (minute : ℕ) → Activity → (odometer km : ℕ) → Deed
keep minute act odometer km = Keep (record { entry = entry minute act; registration = own_vehicle; odometer = odometer; km = km })

entered_by_hand : enters (by_hand 21123820 ∷ by_hand 21123830 ∷ []) ≡ Enter (by_hand 21123820) ∷ Enter (by_hand 21123830) ∷ []
entered_by_hand = refl

-- Before the first keep the entry by hand of its day is written, and that of the day before is given up. The first minute
-- brings no km; the second those that the odometer has grown.
kept_minutes : keeps own_vehicle None (by_hand 21122000 ∷ by_hand 21123830 ∷ []) (kept 21123840 Work 1000 ∷ kept 21123841 Driving 1001 ∷ [])
    ≡ Enter (by_hand 21123830) ∷ keep 21123840 Work 1000 0 ∷ keep 21123841 Driving 1001 1 ∷ []
kept_minutes = refl

-- what is owed has the odometer of now, and no km
kept_of_what_is_owed : owed_keeps own_vehicle 1000 (entry 21123372 Work ∷ entry 21123373 Driving ∷ [])
    ≡ keep 21123372 Work 1000 0 ∷ keep 21123373 Driving 1000 0 ∷ []
kept_of_what_is_owed = refl

-- an insertion closes the last words with rest; of a card whose session was left open the days are cut, and it gets what it
-- lacks
insertion_of_a_closed_card : opens false own_vehicle 1000 (entry 21123372 Work ∷ []) ≡ Close Rest ∷ []
insertion_of_a_closed_card = refl

insertion_of_an_open_card : opens true own_vehicle 1000 (entry 21123372 Work ∷ []) ≡ Cut ∷ keep 21123372 Work 1000 0 ∷ Close Rest ∷ []
insertion_of_an_open_card = refl

-- WHAT THAT MAKES of the card: the closing word stands already, so the insertion leaves the day as it is; work by hand from
-- 07:50 on, work in 08:00, driving in 08:01 with 1 km more, and rest from 08:02 on. The vehicle is another, so there is a new
-- entry, with the counter 2, from 08:00 to 08:02.
abbrev new_entry : Vehicle
new_entry = record {
  odometer_begin = record { 0 = 1000 };
  odometer_end = record { 0 = 1001 };
  first_use = record { 0 = 1267430400 };
  last_use = record { 0 = 1267430520 };
  registration = own_vehicle;
  counter = 0 ∷ 2 ∷ [];
}

abbrev book_at_start : Book
book_at_start = record { days = day_with (0x0000 ∷ 0x300A ∷ []) ∷ []; vehicles = record { newest = Some newest_entry; ring = None ∷ Some newest_entry ∷ [] } }

made_of_it : made_by 40 (Close Rest ∷ Enter (by_hand 21123830) ∷ keep 21123840 Work 1000 0 ∷ keep 21123841 Driving 1001 1 ∷ Close Rest ∷ []) book_at_start
    ≡ record {
      days = record { date = 1267401600; counter = 1; km = 8; words = 0x0000 ∷ 0x300A ∷ 0x71D6 ∷ 0x11E0 ∷ 0x19E1 ∷ 0x21E2 ∷ [] } ∷ [];
      vehicles = record { newest = Some new_entry; ring = Some newest_entry ∷ Some new_entry ∷ [] };
    }
made_of_it = refl
