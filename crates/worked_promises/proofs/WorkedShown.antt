-- Worked rows of the entries by hand that the image of a card tells, and of what was kept as it was accepted.
use Rattle.std.proofs.Common.{◌≡◌, ℕ, ◌+◌, zero, suc, Bool, true, false, Option, Some, None, List, [], ◌∷◌, ◌++◌, map, replicate, refl}
use Rattle.activity_codec.specs.declared.values.Slot.TheVariants.{Driver, CoDriver}
use Rattle.activity_codec.specs.declared.values.Activity.{Activity}
use Rattle.activity_codec.specs.declared.values.Activity.TheVariants.{Rest, Available, Work, Driving}
use Rattle.activity_codec.specs.declared.entries.Entry.{Entry}
use Rattle.activity_codec.specs.declared.entries.Manual.{Manual}
use Rattle.card_layout.specs.Application.{application_of}
use Rattle.card_layout.specs.Files.{files_of}
use Rattle.card_files.specs.CurrentUses.{current_use_of}
use Rattle.card_files.specs.Vehicles.{vehicle_of as vehicle_told}
use Rattle.card_model.specs.Walk.{days_of}
use Rattle.card_retention.specs.Entries.{day_entries}
use Rattle.card_image.specs.Fields.{current_use, newest_vehicle, card_days, card_number}
use Rattle.card_image.specs.View.{card_view}
use Rattle.card_image.specs.Own.{own_sizes, own_view, own_number}
use Rattle.gated_ring.specs.Ring.{indices}
use Rattle.hand_model.specs.AtStart.{marked_at, all_at, hands_at}
use Rattle.trace_model.specs.declared.Card.TheVariants.{A, B}
use Rattle.trace_model.specs.declared.Item.TheVariants.{Run, Off}
use Rattle.trace_model.specs.Trace.{seconds_of}
use Rattle.minute_model.specs.declared.Rule.TheVariants.{Original}
use Rattle.minute_model.specs.Minute.{decided}
use Rattle.log_model.specs.declared.lines.Break.TheVariants as break
use Rattle.log_model.specs.Log.{RunLog, cut_in, is_torn_in, found_in, kept_after}
use Rattle.log_model.specs.Course.{ToldSecond, went}
use Rattle.log_model.specs.Spans.{spans_of}
use Rattle.log_model.specs.ByHand.{asked_of}
use Rattle.history_model.specs.Minutes.{card_history}
use Rattle.history_model.specs.Presence.{newest_minute, present_in}
use Rattle.history_model.specs.History.{unit_history}
use Rattle.unit_model.specs.Image.{recorded, last_kept, unit_days}
use Rattle.safety_model.specs.Hands.{hands_done}
use Rattle.safety_model.specs.Cards.{acceptances, was_kept}
use Rattle.safety_model.specs.ByHand.{app}
use Rattle.safety_model.specs.Safe.{card_of}
use Rattle.note_model.specs.Odometer.{SpanFrom, minutes_kept}
use Rattle.run_speeds.specs.Speeds.{none_sure}
use Rattle.worked_promises.proofs.Scenario.{start, at}
use Rattle.worked_promises.proofs.Images.{sizes, vehicles, places, usage, identification}
use Rattle.worked_promises.proofs.WorkedRecordings.{run}
use Rattle.worked_promises.proofs.WorkedDevices.{three}

-- ---- by hand

-- a card with an entry by hand at 07:50, behind its end mark; with this session time
abbrev with_an_entry : (session : List ℕ) → List ℕ
with_an_entry session =
    replicate 33 0 ++ sizes ++ (0 ∷ 0 ∷ 0 ∷ 0 ∷ 0 ∷ 0 ∷ 0 ∷ 18 ∷ 75 ∷ 139 ∷ 3 ∷ 128 ∷ 0 ∷ 1 ∷ 0 ∷ 7 ∷ 0 ∷ 0 ∷ 48 ∷ 10 ∷ 113 ∷ 214 ∷ []) ++ replicate 22 0 ++ vehicles ++ places
    ++ usage session ++ replicate 50 0 ++ identification

abbrev by_hand : Manual
by_hand = record { minute = 21123830; slot = Driver; act = Work }

none_up_to_the_mark : marked_at (with_an_entry (0 ∷ 0 ∷ 0 ∷ 0 ∷ [])) ≡ []
unfolding own_sizes application_of files_of own_view card_view card_days days_of newest_vehicle indices vehicle_told current_use current_use_of day_entries
none_up_to_the_mark = refl

one_behind_it : all_at (with_an_entry (0 ∷ 0 ∷ 0 ∷ 0 ∷ [])) ≡ by_hand ∷ []
unfolding own_sizes application_of files_of own_view card_view card_days days_of newest_vehicle indices vehicle_told current_use current_use_of day_entries
one_behind_it = refl

told_while_closed : hands_at (with_an_entry (0 ∷ 0 ∷ 0 ∷ 0 ∷ [])) ≡ by_hand ∷ []
unfolding own_sizes application_of files_of own_view card_view card_days days_of newest_vehicle indices vehicle_told current_use current_use_of day_entries
told_while_closed = refl

not_told_while_open : hands_at (with_an_entry (75 ∷ 139 ∷ 3 ∷ 188 ∷ [])) ≡ []
unfolding own_sizes application_of files_of own_view card_view card_days days_of newest_vehicle indices vehicle_told current_use current_use_of day_entries
not_told_while_open = refl

done_by_hand : hands_done run A ≡ by_hand ∷ []
unfolding asked_of seconds_of cut_in is_torn_in found_in
done_by_hand = refl

-- ---- devices

sizes_of_the_driver : app run A ≡ record { structure = 0; events = 0; faults = 0; activity = 40; vehicles = 2; places = 1 }
unfolding own_sizes application_of
sizes_of_the_driver = refl

faults_of_both : (card_of three A).faults ∷ (card_of three B).faults ∷ [] ≡ 8 ∷ 9 ∷ []
faults_of_both = refl

-- ---- what was kept by then

accepted_when : acceptances run A ≡ at 0 ∷ at 270 ∷ at 300 ∷ at 360 ∷ []
unfolding seconds_of went cut_in is_torn_in found_in
accepted_when = refl

-- by 08:04:30 08:01 was kept; 08:02, which the cut shows as lost, was not, nor was 08:04, which had not ended
kept_by_an_acceptance : map (was_kept run A (at 270)) (21123841 ∷ 21123842 ∷ 21123844 ∷ []) ≡ true ∷ false ∷ false ∷ []
kept_by_an_acceptance = refl

-- Before that cut it goes by the end of a minute alone: at 08:03:50 08:02 counts as kept, though it is not decided yet, and never
-- was kept. It is asked of acceptances, and by an acceptance each minute before is decided.
kept_by_another_second : was_kept run A (at 230) 21123842 ≡ true
kept_by_another_second = refl

-- a cut behind which the unit was never read again
abbrev unfound : RunLog
unfound = record { breaks = break.Cut (at 239) 0 false 0 ∷ []; refused = []; finds = [] }

abbrev spans_from : List (List ToldSecond) → List SpanFrom
spans_from [] = []
spans_from (span ∷ spans) = record { base = 1000; span = span } ∷ spans_from spans

-- Such a cut tells 0. So of its span no minute counts as kept, though 08:00 and 08:01 were. It is asked of spans behind which power
-- came back.
none_kept_where_none_was_found : minutes_kept Original unfound (spans_from (spans_of (went unfound (seconds_of start (Run 240 0 ∷ Off 30 ∷ []))).told)) ≡ []
unfolding spans_of seconds_of went cut_in is_torn_in found_in kept_after decided
none_kept_where_none_was_found = refl

none_of_the_blocks : none_sure (record { time = at 60; speeds = [] }) ≡ false
none_of_the_blocks = refl
