-- Worked rows of the stays of a card: what they do on it, what it shows behind them, by which lines it was judged, and which
-- vehicle it had before.
use Rattle.std.proofs.Common.{◌≡◌, ℕ, ◌+◌, Bool, true, false, Option, Some, None, List, [], ◌∷◌, ◌++◌, map, length, replicate, refl}
use Rattle.std.specs.Prelude.{take}
use Rattle.activity_codec.specs.declared.values.Slot.TheVariants.{Driver, CoDriver}
use Rattle.activity_codec.specs.declared.values.Activity.{Activity}
use Rattle.activity_codec.specs.declared.values.Activity.TheVariants.{Rest, Available, Work, Driving}
use Rattle.activity_codec.specs.declared.entries.Entry.{Entry}
use Rattle.activity_codec.specs.declared.entries.Manual.{Manual}
use Rattle.card_layout.specs.Application.{application_of}
use Rattle.card_layout.specs.Files.{files_of}
use Rattle.card_layout.specs.declared.files.Fid.{Fid}
use Rattle.card_files.specs.declared.card_event.CardEvent.{CardEvent}
use Rattle.card_files.specs.declared.current_use.CurrentUse.{CurrentUse}
use Rattle.card_files.specs.declared.vehicle.Vehicle.{Vehicle}
use Rattle.card_files.specs.CurrentUses.{current_use_of}
use Rattle.card_files.specs.Vehicles.{vehicle_of as vehicle_told}
use Rattle.card_model.specs.Walk.{days_of}
use Rattle.card_image.specs.Fields.{current_use, newest_vehicle, card_days}
use Rattle.card_image.specs.Own.{own_sizes}
use Rattle.gated_ring.specs.Ring.{indices}
use Rattle.trace_model.specs.declared.Card.TheVariants.{A, B}
use Rattle.trace_model.specs.Trace.{seconds_of}
use Rattle.log_model.specs.declared.lines.Find.{Find}
use Rattle.log_model.specs.declared.lines.Verdict.{Verdict}
use Rattle.log_model.specs.declared.lines.Verdict.TheVariants.{Accepted, NotValid, TimeOverlap}
use Rattle.log_model.specs.Log.{RunLog, cut_in, is_torn_in, found_in}
use Rattle.log_model.specs.Course.{went}
use Rattle.note_model.specs.Done.{done_of}
use Rattle.note_model.specs.Noted.{notes_of}
use Rattle.card_session.specs.declared.session.Kept.{Kept}
use Rattle.card_session.specs.Vehicles.{ring_round}
use Rattle.card_session.specs.Books.{Book}
use Rattle.card_session.specs.Sessions.{book_of}
use Rattle.card_string.specs.Deeds.{Deed, Keep, Enter, Close, Cut}
use Rattle.run_acts.specs.Closings.{Spell, spells_of}
use Rattle.run_acts.specs.Comings.{VehicleTold, told_in, told_of, vehicles_in}
use Rattle.run_acts.specs.OnCards.{uses_past, unclosed_all}
use Rattle.run_acts.specs.Stays.{Stay, Shut, Shown, Coming, closes, deeds_of, open_from, use_after, after_stay, after_stays, start_shown, stored_by, is_late, judged_told, judged_in, acceptances_told, spells, comings_of, comings_on, lines_of, befores_of}
use Rattle.worked_promises.proofs.Scenario.{at, log, seconds, finds}
use Rattle.worked_promises.proofs.Images.{card, open_card, unit, other_vehicle, own_vehicle, newest_entry, day_with}
use Rattle.worked_promises.proofs.WorkedNotes.{notes}

abbrev entry : (minute : ℕ) → Activity → Entry
entry minute act = record { minute = minute; slot = Driver; crew = false; act = act }

abbrev kept : (minute : ℕ) → Activity → (odometer : ℕ) → Kept
kept minute act odometer = record { entry = entry minute act; odometer = record { 0 = odometer } }

abbrev keep : (minute : ℕ) → Activity → (odometer km : ℕ) → Deed
keep minute act odometer km = Keep (record { entry = entry minute act; registration = own_vehicle; odometer = odometer; km = km })

-- work from 07:50 on
abbrev by_hand : Manual
by_hand = record { minute = 21123830; slot = Driver; act = Work }

-- THE FIRST STAY: from 08:00:00 on at 1000 km, an entry by hand, work in 08:00 and driving in 08:01; power ends it
abbrev pub first : Stay
first = record {
  found = finds (at 0) 1 Driver (Accepted 0);
  odometer = 1000;
  owed = [];
  by_hand = by_hand ∷ [];
  kepts = kept 21123840 Work 1000 ∷ kept 21123841 Driving 1001 ∷ [];
  closed = None;
  turned = [];
}

-- THE SECOND: from 08:04:30 on at 1001 km, rest in 08:04; the card is withdrawn at 08:05:00, behind a line that turned it
-- away
abbrev second : Stay
second = record {
  found = finds (at 270) 0 Driver (Accepted 0);
  odometer = 1001;
  owed = [];
  by_hand = [];
  kepts = kept 21123844 Rest 1001 ∷ [];
  closed = Some (record { second = at 300; word = Rest });
  turned = finds (at 260) 0 Driver (TimeOverlap (at 265) (at 260)) ∷ [];
}

-- what the card shows at the start: rest until its closing word at 00:10; no session is open
abbrev pub at_start : Shown
at_start = record {
  book = record { days = day_with (0x0000 ∷ 0x300A ∷ []) ∷ []; vehicles = record { newest = Some newest_entry; ring = None ∷ Some newest_entry ∷ [] } };
  held = record { session = record { 0 = 0 }; registration = other_vehicle };
}

-- ---- what is done in them

not_closed : closes None ≡ []
not_closed = refl

closed_with_work : closes (Some (record { second = at 300; word = Work })) ≡ Close Work ∷ []
closed_with_work = refl

deeds_of_the_first : deeds_of own_vehicle false at_start.book first
    ≡ Close Rest ∷ Enter by_hand ∷ keep 21123840 Work 1000 0 ∷ keep 21123841 Driving 1001 1 ∷ []
deeds_of_the_first = refl

-- where a session was left open: the cut, of what was owed what is later than the end mark at 00:10, and the closing
deeds_of_one_behind_an_open_session : deeds_of own_vehicle true at_start.book (record second { owed = entry 21123370 Rest ∷ entry 21123371 Work ∷ [] })
    ≡ Cut ∷ keep 21123371 Work 1001 0 ∷ Close Rest ∷ keep 21123844 Rest 1001 0 ∷ Close Rest ∷ []
deeds_of_one_behind_an_open_session = refl

open_since : open_from 7 None ≡ 7
open_since = refl

open_no_more : open_from 7 (Some (record { second = 9; word = Rest })) ≡ 0
open_no_more = refl

use_of_the_first : use_after own_vehicle first ≡ record { session = record { 0 = at 0 }; registration = own_vehicle }
use_of_the_first = refl

use_of_the_second : use_after own_vehicle second ≡ record { session = record { 0 = 0 }; registration = own_vehicle }
use_of_the_second = refl

-- ---- what the card shows

shown_at_the_start : start_shown card ≡ at_start
unfolding own_sizes application_of files_of book_of newest_vehicle ring_round indices vehicle_told current_use current_use_of card_days days_of
shown_at_the_start = refl

-- a vehicle entry of the run from 08:00 on, to this second
abbrev run_entry : ℕ → Vehicle
run_entry last = record {
  odometer_begin = record { 0 = 1000 };
  odometer_end = record { 0 = 1001 };
  first_use = record { 0 = at 0 };
  last_use = record { 0 = last };
  registration = own_vehicle;
  counter = 0 ∷ 2 ∷ [];
}

-- behind the first: work by hand at 07:50, work at 08:00, driving at 08:01, not closed; 1 km more
abbrev behind_first : Shown
behind_first = record {
  book = record {
    days = record { date = 1267401600; counter = 1; km = 8; words = 0x0000 ∷ 0x300A ∷ 0x71D6 ∷ 0x11E0 ∷ 0x19E1 ∷ [] } ∷ [];
    vehicles = record { newest = Some (run_entry (at 60)); ring = Some newest_entry ∷ Some (run_entry (at 60)) ∷ [] };
  };
  held = record { session = record { 0 = at 0 }; registration = own_vehicle };
}

shown_behind_the_first : after_stay own_vehicle 40 first at_start ≡ behind_first
shown_behind_the_first = refl

-- behind both: the words are closed at 08:02 as it is put in, rest at 08:04, closed at 08:05; used until then
shown_behind_both : after_stays own_vehicle 40 (first ∷ second ∷ []) at_start
    ≡ record {
      book = record {
        days = record { date = 1267401600; counter = 1; km = 8; words = 0x0000 ∷ 0x300A ∷ 0x71D6 ∷ 0x11E0 ∷ 0x19E1 ∷ 0x21E2 ∷ 0x01E4 ∷ 0x21E5 ∷ [] } ∷ [];
        vehicles = record { newest = Some (run_entry (at 300)); ring = Some newest_entry ∷ Some (run_entry (at 300)) ∷ [] };
      };
      held = record { session = record { 0 = 0 }; registration = own_vehicle };
    }
shown_behind_both = refl

shown_behind_none : after_stays own_vehicle 40 [] at_start ≡ at_start
shown_behind_none = refl

-- ---- when it may be accepted

-- the last use of its vehicle, 00:10, which is also that of its newest word
stored_at_the_start : stored_by at_start ≡ 1267402200
stored_at_the_start = refl

-- with a word at 00:12 that of the word; while a session is open that does not count
stored_by_a_word : stored_by (record { book = record at_start.book { days = day_with (0x0000 ∷ 0x300C ∷ []) ∷ [] }; held = at_start.held }) ≡ 1267402320
stored_by_a_word = refl

stored_while_open : stored_by (record {
  book = record at_start.book { days = day_with (0x0000 ∷ 0x300C ∷ []) ∷ [] };
  held = record { session = record { 0 = 7 }; registration = other_vehicle };
}) ≡ 1267402200
stored_while_open = refl

late_or_not : map is_late (Accepted 0 ∷ NotValid (record { 0 = 0x0501 }) 0 ∷ TimeOverlap 8 7 ∷ []) ≡ false ∷ false ∷ true ∷ []
late_or_not = refl

-- of three lines the one of a card that is not valid tells of no stay
abbrev three_lines : RunLog
three_lines = record {
  breaks = [];
  refused = [];
  finds = finds 7 1 Driver (NotValid (record { 0 = 0x0501 }) 0) ∷ finds 8 1 Driver (TimeOverlap 9 8) ∷ finds 9 1 Driver (Accepted 2) ∷ [];
}

judged_by_two : judged_told three_lines ≡ finds 8 1 Driver (TimeOverlap 9 8) ∷ finds 9 1 Driver (Accepted 2) ∷ []
judged_by_two = refl

accepted_by_one : acceptances_told three_lines ≡ finds 9 1 Driver (Accepted 2) ∷ []
accepted_by_one = refl

accepted_in_the_run : map (λ f. f.second) (acceptances_told log) ≡ at 0 ∷ at 0 ∷ at 270 ∷ at 300 ∷ at 360 ∷ []
accepted_in_the_run = refl

-- the lines of a card's stays, each behind those that turned it away, and the ones since the last
judged_in_order : map (λ f. f.second) (judged_in (first ∷ second ∷ []) (finds (at 380) 1 Driver (TimeOverlap (at 500) (at 380)) ∷ []))
    ≡ at 0 ∷ at 260 ∷ at 270 ∷ at 380 ∷ []
judged_in_order = refl

-- ---- how often it sat in a slot

spells_of_stays : spells (first ∷ second ∷ [])
    ≡ record { second = at 0; slot = Driver; withdrawn = None } ∷ record { second = at 270; slot = Driver; withdrawn = Some (at 300) } ∷ []
spells_of_stays = refl

-- as the run notes them: the driver's card four times, the co-driver's once
spells_of_the_driver : spells_of A notes
    ≡ record { second = at 0; slot = Driver; withdrawn = None } ∷ record { second = at 270; slot = Driver; withdrawn = Some (at 300) }
    ∷ record { second = at 300; slot = Driver; withdrawn = None } ∷ record { second = at 360; slot = Driver; withdrawn = None } ∷ []
unfolding notes_of done_of seconds_of went cut_in is_torn_in found_in
spells_of_the_driver = refl

spells_of_the_codriver : spells_of B notes ≡ record { second = at 0; slot = CoDriver; withdrawn = None } ∷ []
unfolding notes_of done_of seconds_of went cut_in is_torn_in found_in
spells_of_the_codriver = refl

-- ---- the vehicle before

-- at the first coming that of the card's image, at the second that of the run
abbrev comings : List Coming
comings = record { found = first.found; before = Some newest_entry } ∷ record { found = second.found; before = Some (run_entry (at 60)) } ∷ []

vehicles_before_each : comings_of own_vehicle 40 (first ∷ second ∷ []) at_start ≡ comings
vehicles_before_each = refl

vehicles_before_by_the_image : comings_on own_vehicle card (first ∷ second ∷ []) ≡ comings
unfolding own_sizes application_of files_of book_of newest_vehicle ring_round indices vehicle_told current_use current_use_of card_days days_of
vehicles_before_by_the_image = refl

lines_of_both : map (λ f. f.second) (lines_of comings) ≡ at 0 ∷ at 270 ∷ []
lines_of_both = refl

told_of_both : befores_of comings ≡ record { registration = other_vehicle.0; time = 1267402200 } ∷ record { registration = own_vehicle.0; time = at 60 } ∷ []
told_of_both = refl

told_of_none : told_of None ≡ record { registration = 0 ∷ 0 ∷ 0 ∷ 0 ∷ 0 ∷ 0 ∷ 0 ∷ 0 ∷ 0 ∷ 0 ∷ 0 ∷ 0 ∷ 0 ∷ 0 ∷ 0 ∷ []; time = 0 }
told_of_none = refl

-- an entry of the ring of insertions: 109 bytes of holder, acceptance and withdrawal, then the vehicle and its time
told_in_an_entry : told_in (replicate 109 9 ++ 13 ∷ replicate 14 66 ++ 75 ∷ 139 ∷ 5 ∷ 216 ∷ 0 ∷ []) ≡ record { registration = other_vehicle.0; time = 1267402200 }
told_in_an_entry = refl

no_vehicle_in_a_unit_without_insertions : vehicles_in unit ≡ []
unfolding indices
no_vehicle_in_a_unit_without_insertions = refl

-- ---- sessions that were not closed

abbrev used : (session : ℕ) → CurrentUse
used session = record { session = record { 0 = session }; registration = other_vehicle }

behind_two_acceptances : uses_past (at 0 ∷ at 270 ∷ []) (used 7 ∷ used 8 ∷ used 9 ∷ []) ≡ used 9 ∷ []
behind_two_acceptances = refl

behind_more_than_there_are : uses_past (at 0 ∷ at 270 ∷ []) (used 7 ∷ []) ≡ []
behind_more_than_there_are = refl

-- of two uses one was open: the event of type 06 (last card session not correctly closed) from its time to the acceptance
one_not_closed : unclosed_all (at 300) (used 0 ∷ used 7 ∷ [])
    ≡ record { kind = 0x06; begin = record { 0 = 7 }; end = record { 0 = at 300 }; registration = other_vehicle } ∷ []
one_not_closed = refl
