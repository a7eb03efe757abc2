-- Worked rows of what a run moves, and of the sessions that its cards are left with.
use Rattle.std.proofs.Common.{◌≡◌, ℕ, ◌+◌, Bool, true, false, Option, Some, None, List, [], ◌∷◌, ◌++◌, map, filter, replicate, refl}
use Rattle.std.specs.Prelude.{take}
use Rattle.activity_codec.specs.declared.values.Slot.{Slot}
use Rattle.activity_codec.specs.declared.values.Slot.TheVariants.{Driver, CoDriver}
use Rattle.tacho_types.specs.declared.texts.Registration.{Registration}
use Rattle.card_files.specs.declared.current_use.CurrentUse.{CurrentUse}
use Rattle.trace_model.specs.declared.Card.{Card}
use Rattle.trace_model.specs.declared.Card.TheVariants.{A, B}
use Rattle.trace_model.specs.Trace.{seconds_of}
use Rattle.minute_model.specs.declared.Rule.TheVariants.{Original}
use Rattle.log_model.specs.Log.{RunLog, In, cut_in, is_torn_in, found_in}
use Rattle.log_model.specs.Course.{Visit, went}
use Rattle.note_model.specs.Done.{done_of}
use Rattle.note_model.specs.Noted.{Note, Withdraws, PlaceNote, notes_of, places_of}
use Rattle.safety_model.specs.Recording.{Recording}
use Rattle.run_note_record.specs.Moved.{Move, moves_in}
use Rattle.run_note_record.specs.Sessions.{is_opened_by, is_shut_by, told_on}
use Rattle.run_note_record.specs.OnCards.{has_call_failed_in, places_on, is_sure_on}
use Rattle.run_note_record.specs.Uses.{left_open, uses_from, use_behind, insertions_on, times_of, opened_on}
use Rattle.worked_promises.proofs.Scenario.{at, log, told, seconds}
use Rattle.worked_promises.proofs.WorkedNotes.{notes}

-- a card is put in, or meets power; and it is taken out
abbrev puts : ℕ → Card → Move
puts second card = record { second = at second; card = card; out = false }

abbrev takes : ℕ → Card → Move
takes second card = record { second = at second; card = card; out = true }

-- Both cards are put in. As power is back the driver's meets it in its slot, and the co-driver's is put in; then the
-- driver's is withdrawn and put in again, and meets power once more. What is refused moves nothing, nor does a `tear`.
moves : moves_in log seconds
    ≡ puts 0 A ∷ puts 0 B ∷ puts 270 A ∷ puts 270 B ∷ takes 300 A ∷ puts 300 A ∷ puts 360 A ∷ puts 380 B ∷ []
unfolding moves_in seconds_of cut_in is_torn_in found_in
moves = refl

-- ---- sessions

-- the notes are: A and B accepted, the first place, A accepted at 08:04:30, withdrawn and accepted at 08:05:00, the
-- second place, A accepted at 08:06:00. What A may tell behind each, where it told of session 7 at the start: at 08:04:30
-- a call failed (on the other card), so it may tell of that before, of none, or of its own.
told_behind_each_note : map (λ n. told_on log A 7 (take n notes)) (0 ∷ 1 ∷ 2 ∷ 4 ∷ 5 ∷ 6 ∷ 8 ∷ [])
    ≡ (7 ∷ []) ∷ (at 0 ∷ []) ∷ (at 0 ∷ []) ∷ (at 0 ∷ 0 ∷ at 270 ∷ []) ∷ (0 ∷ []) ∷ (at 300 ∷ []) ∷ (at 360 ∷ []) ∷ []
unfolding notes_of done_of seconds_of went cut_in is_torn_in found_in
told_behind_each_note = refl

-- the card that was pulled out tells of its session still
told_by_the_card_pulled_out : told_on log B 0 notes ≡ at 0 ∷ []
unfolding notes_of done_of seconds_of went cut_in is_torn_in found_in
told_by_the_card_pulled_out = refl

-- a withdrawal in a second in which a call on the unit failed may have closed it or not
told_behind_a_failed_withdrawal : told_on log A 7 (Withdraws (record { second = at 350; card = A }) ∷ []) ≡ 7 ∷ 0 ∷ []
told_behind_a_failed_withdrawal = refl

opened_sure : map (λ u. is_opened_by log A (record { second = at u; slot = Driver; card = A })) (0 ∷ 270 ∷ 350 ∷ []) ≡ true ∷ false ∷ false ∷ []
opened_sure = refl

opened_another : is_opened_by log A (record { second = at 0; slot = Driver; card = B }) ≡ false
opened_another = refl

-- a call that failed on another card leaves a withdrawal sure
shut_sure : map (λ u. is_shut_by log A (record { second = at u; card = A })) (270 ∷ 300 ∷ 350 ∷ []) ≡ true ∷ true ∷ false ∷ []
shut_sure = refl

shut_another : is_shut_by log B (record { second = at 300; card = A }) ≡ false
shut_another = refl

-- ---- failed calls

failed_in : map (λ u. has_call_failed_in log (at u)) (150 ∷ 239 ∷ 270 ∷ 350 ∷ []) ≡ false ∷ false ∷ true ∷ true ∷ []
failed_in = refl

-- a place of the second driver, and those of the run
abbrev place_of : (second : ℕ) → Card → PlaceNote
place_of second card = record { second = at second; card = card; ending = true; country = 13; region = 7 }

places_of_the_first_driver : map (λ p. p.second) (places_on A (place_of 9 B ∷ places_of notes)) ≡ at 0 ∷ at 300 ∷ []
unfolding notes_of done_of seconds_of went cut_in is_torn_in found_in
places_of_the_first_driver = refl

places_of_the_second_driver : places_on B (place_of 8 A ∷ place_of 9 B ∷ []) ≡ place_of 9 B ∷ []
places_of_the_second_driver = refl

places_sure_on_a_card : map (λ u. is_sure_on log (place_of u A)) (0 ∷ 270 ∷ 350 ∷ []) ≡ true ∷ false ∷ false ∷ []
places_sure_on_a_card = refl

-- ---- uses

-- the vehicle of the unit, and the use that the first card has at the start: a session that is open in another
abbrev own : Registration
own = record { 0 = 13 ∷ replicate 14 65 }

abbrev used : (session : ℕ) → CurrentUse
used session = record { session = record { 0 = session }; registration = own }

abbrev first_use : CurrentUse
first_use = record { session = record { 0 = 7 }; registration = record { 0 = 13 ∷ replicate 14 66 } }

-- the seconds of the first card's insertions, each with that of its withdrawal
insertions_of_a_card : map (λ i. i.accepted.second) (insertions_on A notes) ≡ at 0 ∷ at 270 ∷ at 300 ∷ at 360 ∷ []
unfolding notes_of done_of seconds_of went cut_in is_torn_in found_in
insertions_of_a_card = refl

withdrawals_of_a_card : map (λ i. i.withdrawn) (insertions_on A notes) ≡ None ∷ Some (at 300) ∷ None ∷ None ∷ []
unfolding notes_of done_of seconds_of went cut_in is_torn_in found_in
withdrawals_of_a_card = refl

-- at first that of the start; the session that power ended is open still; the one that was withdrawn is not
uses_found : uses_from own first_use (insertions_on A notes) ≡ first_use ∷ used (at 0) ∷ used 0 ∷ used (at 300) ∷ []
unfolding notes_of done_of seconds_of went cut_in is_torn_in found_in
uses_found = refl

use_that_is_left : use_behind own first_use (insertions_on A notes) ≡ used (at 360)
unfolding notes_of done_of seconds_of went cut_in is_torn_in found_in
use_that_is_left = refl

use_of_a_card_that_never_came : use_behind own first_use [] ≡ first_use
use_of_a_card_that_never_came = refl

open_until_it_is_withdrawn : left_open 7 None ≡ 7
open_until_it_is_withdrawn = refl

closed_by_a_withdrawal : left_open 7 (Some 9) ≡ 0
closed_by_a_withdrawal = refl

times : times_of (used 7 ∷ used 0 ∷ []) ≡ 7 ∷ 0 ∷ []
times = refl

-- one session time for each acceptance: here the second behind it
abbrev second_behind : ℕ → Visit → ℕ
second_behind second visit = second + 1

opened_on_the_first : opened_on A second_behind told ≡ at 1 ∷ at 271 ∷ at 301 ∷ at 361 ∷ []
unfolding seconds_of went cut_in is_torn_in found_in
opened_on_the_first = refl

-- that which tells of a later time is not accepted
opened_on_the_second : opened_on B second_behind told ≡ at 1 ∷ []
unfolding seconds_of went cut_in is_torn_in found_in
opened_on_the_second = refl
