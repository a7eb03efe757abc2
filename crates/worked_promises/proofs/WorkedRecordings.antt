-- Worked rows of a run as it is recorded: what it begins with, its sessions and entries by hand, its events, how often its
-- cards entered, and how it is told.
use Rattle.std.proofs.Common.{◌≡◌, ℕ, ◌+◌, ◌*◌, Bool, true, false, Option, Some, None, List, [], ◌∷◌, ◌++◌, map, length, replicate, refl}
use Rattle.std.specs.Prelude.{take}
use Rattle.activity_codec.specs.declared.values.Slot.TheVariants.{Driver, CoDriver}
use Rattle.activity_codec.specs.declared.values.Activity.TheVariants.{Rest, Available, Work, Driving}
use Rattle.activity_codec.specs.declared.values.Pick.TheVariants as pick
use Rattle.activity_codec.specs.declared.entries.Manual.{Manual}
use Rattle.view_model.specs.declared.State.{State as SlotState}
use Rattle.unit_model.specs.Days.{UnitMinute}
use Rattle.unit_model.specs.Versions.{rule_of}
use Rattle.card_layout.specs.Application.{application_of}
use Rattle.card_layout.specs.Files.{files_of}
use Rattle.card_files.specs.declared.current_use.CurrentUse.{CurrentUse}
use Rattle.card_files.specs.CurrentUses.{current_use_of}
use Rattle.card_image.specs.Fields.{current_use, card_number}
use Rattle.card_image.specs.Own.{own_sizes, own_number}
use Rattle.trace_model.specs.declared.Card.TheVariants.{A, B}
use Rattle.trace_model.specs.declared.Action.TheVariants.{Insert}
use Rattle.trace_model.specs.declared.Item.TheVariants.{Run, Act}
use Rattle.trace_model.specs.Trace.{seconds_of}
use Rattle.minute_model.specs.declared.Rule.TheVariants.{Original}
use Rattle.log_model.specs.declared.lines.Break.TheVariants as break
use Rattle.log_model.specs.declared.lines.SlotFault.TheVariants.{Moving, NoPower, NotFree}
use Rattle.log_model.specs.declared.lines.Refused.{Refused}
use Rattle.log_model.specs.declared.lines.Verdict.TheVariants.{Accepted, NotValid, TimeOverlap}
use Rattle.log_model.specs.Log.{RunLog, In, Keeping, cut_in, is_torn_in, found_in, kept_after}
use Rattle.log_model.specs.Course.{Visit, went}
use Rattle.log_model.specs.Spans.{spans_of}
use Rattle.log_model.specs.ByHand.{Asked, asked_of}
use Rattle.event_model.specs.Events.{Event, Tearing, noted_with, seen_of}
use Rattle.note_model.specs.Done.{done_of}
use Rattle.note_model.specs.Noted.{Accepts, Withdraws, Enters, notes_of}
use Rattle.safety_model.specs.Recording.{Recording}
use Rattle.safety_model.specs.Cards.{mark_writes, is_overlap, entered, overlaps, slot_state}
use Rattle.safety_model.specs.Hands.{Session, brought_by, begun_at, sessions_found, sessions, of_session, asked, done}
use Rattle.safety_model.specs.Side.{identification, holder_of, done_in, notes_in, events_in}
use Rattle.safety_model.specs.Stops.{told_at, asked_at}
use Rattle.run_note_record.specs.Uses.{uses_on, use_left}
use Rattle.run_acts.specs.Stood.{recording_to, is_torn_out_in}
use Rattle.run_acts.specs.Truths.{past_of}
use Rattle.run_outcome.specs.declared.outcome.Outcome.{Outcome}
use Rattle.recorder_with_cards.specs.Ends.{recording_of, opened_with}
use Rattle.recorder_with_cards.specs.Moments.{as_first_told}
use Rattle.worked_promises.proofs.Scenario.{start, at, lines, seconds, log, stops, told}
use Rattle.worked_promises.proofs.Images.{card, open_card, unit, identification as identification_bytes, other_vehicle, own_vehicle}

-- the run on these images
abbrev pub run : Recording
run = record { rule = Original; unit = unit; card_a = card; card_b = open_card; trace = seconds; log = log; stops = stops }

-- ---- sessions

brought_by_each : map brought_by (Accepted 3 ∷ NotValid (record { 0 = 0x0501 }) 7 ∷ TimeOverlap 8 7 ∷ []) ≡ 3 ∷ 0 ∷ 0 ∷ []
brought_by_each = refl

begun_at_each : map begun_at (In 2 ∷ In 0 ∷ Keeping ∷ []) ≡ 2 ∷ 0 ∷ 0 ∷ []
begun_at_each = refl

-- of four cards that were judged in a second, the one that is this card and accepted
abbrev visit : ℕ → Visit
visit n = record { phase = In n; slot = Driver; card = A }

sessions_of_a_second : sessions_found A 7 ((visit 1, Accepted 3) ∷ (visit 2, TimeOverlap 8 7) ∷ (record (visit 3) { card = B }, Accepted 0) ∷ [])
    ≡ record { second = 7; begun = 1; brought = 3 } ∷ []
sessions_of_a_second = refl

-- the driver's card: as it is put in, as power is back, as it is put in again, as power is back
sessions_of_the_driver : sessions run A
    ≡ record { second = at 0; begun = 1; brought = 0 } ∷ record { second = at 270; begun = 0; brought = 0 }
    ∷ record { second = at 300; begun = 2; brought = 0 } ∷ record { second = at 360; begun = 0; brought = 0 } ∷ []
unfolding seconds_of went cut_in is_torn_in found_in
sessions_of_the_driver = refl

-- the co-driver's: torn out as it was put in again, and turned away then
sessions_of_the_codriver : sessions run B ≡ record { second = at 0; begun = 2; brought = 0 } ∷ []
unfolding seconds_of went cut_in is_torn_in found_in
sessions_of_the_codriver = refl

-- ---- entries by hand

-- both that the slots let pass: as the fourth action of the first second, and as the third one at 08:05:00
abbrev first_asked : Asked
first_asked = record { second = at 0; begun = 4; slot = Driver; sitting = record { card = A; accepted = Some (at 0) }; pick = pick.Work; minute = 21123830 }

abbrev second_asked : Asked
second_asked = record { second = at 300; begun = 3; slot = Driver; sitting = record { card = A; accepted = Some (at 300) }; pick = pick.Rest; minute = 21123835 }

asked_of_the_driver : asked run A ≡ first_asked ∷ second_asked ∷ []
unfolding asked_of seconds_of cut_in is_torn_in found_in
asked_of_the_driver = refl

asked_of_the_codriver : asked run B ≡ []
unfolding asked_of seconds_of cut_in is_torn_in found_in
asked_of_the_codriver = refl

-- the session stopped the second
done_by_the_driver : done run A ≡ first_asked ∷ []
unfolding asked_of seconds_of cut_in is_torn_in found_in
done_by_the_driver = refl

-- each was asked in its own session
in_the_first_session : of_session (first_asked ∷ second_asked ∷ []) (record { second = at 0; begun = 1; brought = 0 }) (Some (record { second = at 270; begun = 0; brought = 0 }))
    ≡ record { minute = 21123830; slot = Driver; act = Work } ∷ []
in_the_first_session = refl

in_the_third_session : of_session (first_asked ∷ second_asked ∷ []) (record { second = at 300; begun = 2; brought = 0 }) (Some (record { second = at 360; begun = 0; brought = 0 }))
    ≡ record { minute = 21123835; slot = Driver; act = Rest } ∷ []
in_the_third_session = refl

in_the_last_session : of_session (first_asked ∷ second_asked ∷ []) (record { second = at 360; begun = 0; brought = 0 }) None ≡ []
in_the_last_session = refl

-- an entry in the second of an insertion, before its action, belongs to no session that this begins
before_its_action : of_session (second_asked ∷ []) (record { second = at 300; begun = 3; brought = 0 }) None ≡ []
before_its_action = refl

-- where the stop was told, and where it was asked
told_where : map told_at stops ≡ record { second = at 300; begun = 3 } ∷ []
told_where = refl

asked_where : asked_at second_asked ≡ record { second = at 300; begun = 3 }
asked_where = refl

-- ---- cards

-- of 984 days and 84 more
writes_of_an_insertion : mark_writes ≡ 1068
writes_of_an_insertion = refl

overlap_or_not : map (is_overlap run A) (Accepted 0 ∷ NotValid (record { 0 = 0x0501 }) 7 ∷ TimeOverlap 8 7 ∷ []) ≡ false ∷ false ∷ true ∷ []
overlap_or_not = refl

-- the driver's card entered twice by an action and twice by power; the co-driver's three times, and was turned away once
entered_how_often : entered run A ∷ entered run B ∷ [] ≡ 4 ∷ 3 ∷ []
unfolding seconds_of went cut_in is_torn_in found_in
entered_how_often = refl

turned_away_how_often : overlaps run A ∷ overlaps run B ∷ [] ≡ 0 ∷ 1 ∷ []
unfolding seconds_of went cut_in is_torn_in found_in
turned_away_how_often = refl

abbrev drives : SlotState
drives = record { act = Driving; present = true }

abbrev waits : SlotState
waits = record { act = Available; present = false }

abbrev a_minute : UnitMinute
a_minute = record { minute = 7; driver = drives; codriver = waits; crew = false }

state_of_each_slot : slot_state run A Driver a_minute ∷ slot_state run A CoDriver a_minute ∷ [] ≡ drives ∷ waits ∷ []
state_of_each_slot = refl

-- ---- what it notes

-- the file Identification of the driver's card: 143 bytes
its_identification : identification run A ≡ identification_bytes
unfolding own_sizes application_of files_of
its_identification = refl

-- the number: type 1, state 13, and 16 characters
its_holder : holder_of run A
    ≡ record { surname = replicate 36 51; first_names = replicate 36 52; number = 1 ∷ 13 ∷ replicate 16 49; expiry = 84 ∷ 0 ∷ 0 ∷ 3 ∷ [] }
unfolding own_sizes application_of files_of own_number card_number
its_holder = refl

each_second_is_done : length (done_in run) ≡ 390
unfolding done_of seconds_of cut_in is_torn_in found_in
each_second_is_done = refl

all_notes : notes_in run
    ≡ Accepts (record { second = at 0; slot = Driver; card = A })
    ∷ Accepts (record { second = at 0; slot = CoDriver; card = B })
    ∷ Enters (record { second = at 0; card = A; ending = false; country = 13; region = 5 })
    ∷ Accepts (record { second = at 270; slot = Driver; card = A })
    ∷ Withdraws (record { second = at 300; card = A })
    ∷ Accepts (record { second = at 300; slot = Driver; card = A })
    ∷ Enters (record { second = at 300; card = A; ending = true; country = 13; region = 7 })
    ∷ Accepts (record { second = at 360; slot = Driver; card = A }) ∷ []
unfolding notes_of done_of seconds_of cut_in is_torn_in found_in
all_notes = refl

-- the uses that were found on the driver's card, and those that are left
uses_of_the_driver : uses_on run A
    ≡ record { session = record { 0 = 0 }; registration = other_vehicle } ∷ record { session = record { 0 = at 0 }; registration = own_vehicle }
    ∷ record { session = record { 0 = 0 }; registration = own_vehicle } ∷ record { session = record { 0 = at 300 }; registration = own_vehicle } ∷ []
unfolding notes_of done_of seconds_of cut_in is_torn_in found_in own_sizes application_of files_of current_use current_use_of
uses_of_the_driver = refl

left_on_the_driver : use_left run A ≡ record { session = record { 0 = at 360 }; registration = own_vehicle }
unfolding notes_of done_of seconds_of cut_in is_torn_in found_in own_sizes application_of files_of current_use current_use_of
left_on_the_driver = refl

left_on_the_codriver : use_left run B ≡ record { session = record { 0 = at 0 }; registration = own_vehicle }
unfolding notes_of done_of seconds_of cut_in is_torn_in found_in own_sizes application_of files_of current_use current_use_of
left_on_the_codriver = refl

-- ---- its events

-- no session was found open; a card that is torn out at a power-on is so as it is judged
abbrev none_open : ℕ → Visit → ℕ
none_open second visit = 0

abbrev plain : Tearing
plain = record { by_gap = λ u slot. false; driver_first = λ u n. true }

-- power was gone from the end of the last minute kept, 08:01, to 08:04:30; and from the end of 08:04 to 08:06:00
interruptions : events_in run none_open plain 0x08
    ≡ noted_with 0x08 (at 120) (at 270) (record { driver = Some A; codriver = None })
    ∷ noted_with 0x08 (at 300) (at 360) (record { driver = Some A; codriver = None }) ∷ []
unfolding seen_of seconds_of cut_in kept_after is_torn_in found_in
interruptions = refl

-- the card that was torn out, with the driver's beside it
a_card_fault : events_in run none_open plain 0x40 ≡ noted_with 0x40 (at 270) (at 270) (record { driver = Some A; codriver = None }) ∷ []
unfolding seen_of seconds_of cut_in kept_after is_torn_in found_in
a_card_fault = refl

-- from the second in which it was judged to the time that it tells
an_overlap : events_in run none_open plain 0x03 ≡ noted_with 0x03 (at 380) (at 500) (record { driver = Some A; codriver = None }) ∷ []
unfolding seen_of seconds_of cut_in kept_after is_torn_in found_in
an_overlap = refl

-- none was put in in motion, and the driver's card was there as long as the vehicle moved; 72 km/h is below the limit of 90
nothing_else : events_in run none_open plain 0x05 ++ events_in run none_open plain 0x04 ++ events_in run none_open plain 0x07 ≡ []
unfolding seen_of seconds_of cut_in kept_after is_torn_in found_in
nothing_else = refl

-- ---- a front of it

torn_out_when : map (is_torn_out_in told B) (at 150 ∷ at 270 ∷ []) ++ is_torn_out_in told A (at 270) ∷ [] ≡ false ∷ true ∷ false ∷ []
unfolding seconds_of went cut_in is_torn_in found_in
torn_out_when = refl

abbrev no_line : RunLog
no_line = record { breaks = []; refused = []; finds = [] }

front_of_the_run : recording_to run (take 150 seconds) no_line
    ≡ record { rule = Original; unit = unit; card_a = card; card_b = open_card; trace = take 150 seconds; log = no_line; stops = [] }
front_of_the_run = refl

-- three power spans, of 240, 81 and 30 seconds
spans_of_the_past : map length (past_of log seconds).spans ≡ 240 ∷ 81 ∷ 30 ∷ []
unfolding spans_of seconds_of went cut_in is_torn_in found_in
spans_of_the_past = refl

seconds_of_the_past : length (past_of log seconds).seconds ≡ 390
unfolding seconds_of
seconds_of_the_past = refl

-- ---- how it is told

-- the lines of its outcome: the refusals of the slots and of a session stand in one list, in order of time
abbrev outcome : Outcome
outcome = record {
  marks = record { items = []; room = 0 };
  breaks = record { items = log.breaks; room = 0 };
  refused = record {
    items =
        record { second = at 120; fault = Moving 72; begun = 1 }
        ∷ record { second = at 300; fault = NotFree 21123845 21123845; begun = 3 }
        ∷ record { second = at 355; fault = NoPower; begun = 1 } ∷ [];
    room = 0;
  };
  finds = record { items = log.finds; room = 0 };
}

as_it_was_recorded : recording_of unit card open_card start lines outcome ≡ run
unfolding rule_of
as_it_was_recorded = refl

before_its_first_second : opened_with unit card open_card
    ≡ record { rule = Original; unit = unit; card_a = card; card_b = open_card; trace = []; log = no_line; stops = [] }
unfolding rule_of
before_its_first_second = refl

-- before it is known what was kept a cut tells 0; a tear is told as it is
cut_at_first : as_first_told (break.Cut 7 9 true 2) ≡ break.Cut 7 0 true 2
cut_at_first = refl

tear_at_first : as_first_told (break.Tear 7 Driver true 2 true) ≡ break.Tear 7 Driver true 2 true
tear_at_first = refl
