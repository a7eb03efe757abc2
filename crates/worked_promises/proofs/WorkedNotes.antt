-- Worked rows of what a run notes: its places and insertions, the odometer by its power spans, and what is sure of them.
use Rattle.std.proofs.Common.{◌≡◌, ℕ, ◌+◌, Bool, true, false, Option, Some, None, List, [], ◌∷◌, ◌++◌, map, replicate, refl}
use Rattle.std.specs.Prelude.{take, option_map}
use Rattle.activity_codec.specs.declared.values.Slot.TheVariants.{Driver, CoDriver}
use Rattle.trace_model.specs.declared.Card.{Card}
use Rattle.trace_model.specs.declared.Card.TheVariants.{A, B}
use Rattle.trace_model.specs.Trace.{seconds_of}
use Rattle.minute_model.specs.declared.Rule.TheVariants.{Original, Amended}
use Rattle.minute_model.specs.Minute.{decided}
use Rattle.log_model.specs.Log.{In, Keeping, cut_in, is_torn_in, found_in, kept_after}
use Rattle.log_model.specs.Course.{ToldSecond, went}
use Rattle.log_model.specs.Spans.{spans_of}
use Rattle.event_model.specs.Events.{seen_of, entered_at}
use Rattle.note_model.specs.Done.{done_of}
use Rattle.note_model.specs.Noted.{Note, PlaceNote, InsertionNote, Accepts, Withdraws, Enters, place_in, places_of, notes_of}
use Rattle.note_model.specs.Odometer.{SpanFrom, odometer_at_end, has_second, odometer_at, found_kept, last_second, limited, minutes_kept}
use Rattle.note_model.specs.Rings.{Holder, unsure_count, kind_of, is_sure_insertion, is_sure_place}
use Rattle.note_model.specs.Tables.{number_or_none}
use Rattle.worked_promises.proofs.Scenario.{at, log, told, seconds}

-- what the run notes
abbrev pub notes : List Note
notes = notes_of log (done_of log seconds)

-- a place of the first driver
abbrev place_of : (second : ℕ) → (ending : Bool) → (region : ℕ) → PlaceNote
place_of second ending region = record { second = second; card = A; ending = ending; country = 13; region = region }

-- ---- places

-- the begin of the day at 08:00:00, and its end at 08:05:00
both_places : places_of notes ≡ place_of (at 0) false 5 ∷ place_of (at 300) true 7 ∷ []
unfolding notes_of done_of seconds_of went cut_in is_torn_in found_in
both_places = refl

no_place_in_an_acceptance : place_in (Accepts (record { second = 7; slot = Driver; card = A })) ≡ []
no_place_in_an_acceptance = refl

no_place_in_a_withdrawal : place_in (Withdraws (record { second = 7; card = A })) ≡ []
no_place_in_a_withdrawal = refl

-- the type of its entry (Appendix 1, EntryTypeDailyWorkPeriod)
where_it_begins : kind_of false ≡ 0
where_it_begins = refl

where_it_ends : kind_of true ≡ 1
where_it_ends = refl

-- ---- the odometer: 1000 km at the start, and behind the first cut that of 08:01, the last minute kept, which is 1001

abbrev with_base : ℕ → List ToldSecond → SpanFrom
with_base base span = record { base = base; span = span }

-- these spans, the first with the odometer of the start
abbrev based : List ℕ → List (List ToldSecond) → List SpanFrom
based [] spans = []
based (b ∷ bases) [] = []
based (b ∷ bases) (span ∷ spans) = with_base b span ∷ based bases spans

abbrev pub spans : List SpanFrom
spans = based (1000 ∷ 1001 ∷ 1001 ∷ []) (spans_of told)

-- at the end of 08:00 no km, of 08:01 one (a minute at 72 km/h is 1.2), of 08:02 two (2.4), of 08:03 three (3.6)
at_the_end_of_each_minute : map (λ m. map (odometer_at_end m) (take 1 spans)) (21123840 ∷ 21123841 ∷ 21123842 ∷ 21123843 ∷ [])
    ≡ (1000 ∷ []) ∷ (1001 ∷ []) ∷ (1002 ∷ []) ∷ (1003 ∷ []) ∷ []
unfolding spans_of seconds_of went cut_in is_torn_in found_in
at_the_end_of_each_minute = refl

-- which of the three power spans has a second: the last one before the cut, one without power, the first one behind it
in_which_span : map (λ u. map (has_second u) spans) (at 239 ∷ at 240 ∷ at 270 ∷ at 350 ∷ at 351 ∷ at 360 ∷ [])
    ≡ (true ∷ false ∷ false ∷ []) ∷ (false ∷ false ∷ false ∷ []) ∷ (false ∷ true ∷ false ∷ []) ∷ (false ∷ true ∷ false ∷ [])
    ∷ (false ∷ false ∷ false ∷ []) ∷ (false ∷ false ∷ true ∷ []) ∷ []
unfolding spans_of seconds_of went cut_in is_torn_in found_in
in_which_span = refl

-- before the card is pulled out 90 seconds were driven (1.8 km); before the last second with power 179 (3.58 km); behind
-- the cut the odometer stands at what was stored, and without power at none
as_seconds_begin : map (λ u. odometer_at u spans) (at 0 ∷ at 150 ∷ at 239 ∷ at 240 ∷ at 270 ∷ at 380 ∷ [])
    ≡ 1000 ∷ 1001 ∷ 1003 ∷ 0 ∷ 1001 ∷ 1001 ∷ []
unfolding spans_of seconds_of went cut_in is_torn_in found_in
as_seconds_begin = refl

-- ---- what was found kept

-- the last seconds of the spans so far: none, that of the `off` line, and that which a call took
last_of_each : map (λ n. option_map (λ t. t.second.number) (last_second (take n spans))) (0 ∷ 1 ∷ 2 ∷ 3 ∷ [])
    ≡ None ∷ Some (at 239) ∷ Some (at 350) ∷ Some (at 389) ∷ []
unfolding spans_of seconds_of went cut_in is_torn_in found_in
last_of_each = refl

-- what was kept at the start; 08:01 behind the first cut, 08:04 behind the second
found_behind_each : map (λ n. found_kept log 21123000 (last_second (take n spans))) (0 ∷ 1 ∷ 2 ∷ [])
    ≡ 21123000 ∷ 21123841 ∷ 21123844 ∷ []
unfolding spans_of seconds_of went cut_in is_torn_in found_in kept_after
found_behind_each = refl

up_to_a_limit : limited (Some 8) (7 ∷ 8 ∷ 9 ∷ []) ≡ 7 ∷ 8 ∷ []
up_to_a_limit = refl

without_a_limit : limited None (7 ∷ 8 ∷ 9 ∷ []) ≡ 7 ∷ 8 ∷ 9 ∷ []
without_a_limit = refl

-- 08:00 and 08:01 were decided before the first cut, 08:04 by the settling at 08:05:00
three_minutes_kept : minutes_kept Original log spans ≡ 21123840 ∷ 21123841 ∷ 21123844 ∷ []
unfolding spans_of seconds_of went cut_in is_torn_in found_in kept_after decided
three_minutes_kept = refl

-- by the amended rule a minute waits for three others: 08:00 was decided, and 08:04
two_minutes_kept : minutes_kept Amended log spans ≡ 21123840 ∷ 21123844 ∷ []
unfolding spans_of seconds_of went cut_in is_torn_in found_in kept_after decided
two_minutes_kept = refl

-- ---- what is sure

-- an insertion in this second
abbrev inserted : ℕ → InsertionNote
inserted second = record { accepted = record { second = second; slot = Driver; card = A }; withdrawn = None }

-- no holder is known
abbrev nobody : Card → Holder
nobody c = record { surname = []; first_names = []; number = []; expiry = [] }

-- in the second of the cut a call on the unit failed; in that of the tear one on a card did
insertions_sure : map (λ u. is_sure_insertion log spans nobody (inserted (at u))) (0 ∷ 270 ∷ 350 ∷ []) ≡ true ∷ true ∷ false ∷ []
insertions_sure = refl

places_sure : map (λ u. is_sure_place log spans nobody (place_of (at u) true 7)) (239 ∷ 270 ∷ 350 ∷ []) ≡ true ∷ true ∷ false ∷ []
places_sure = refl

one_of_three_is_unsure : unsure_count (is_sure_insertion log spans nobody) (inserted (at 0) ∷ inserted (at 350) ∷ inserted (at 360) ∷ []) ≡ 1
one_of_three_is_unsure = refl

-- ---- entries

-- a card's number by its letter
abbrev number : Card → List ℕ
number A = 1 ∷ 17 ∷ []
number B = 1 ∷ 18 ∷ []

number_of_a_card : number_or_none number (Some B) ≡ 1 ∷ 18 ∷ []
number_of_a_card = refl

number_of_none : number_or_none number None ≡ 0 ∷ 0 ∷ 0 ∷ 0 ∷ 0 ∷ 0 ∷ 0 ∷ 0 ∷ 0 ∷ 0 ∷ 0 ∷ 0 ∷ 0 ∷ 0 ∷ 0 ∷ 0 ∷ 0 ∷ 0 ∷ []
number_of_none = refl

-- at 08:00:00 the driver's card enters in the first action, the co-driver's in the second
entered_in_the_first_second : map (λ x. entered_at x (In 1) Driver ∷ entered_at x (In 2) CoDriver ∷ entered_at x (In 1) CoDriver ∷ entered_at x (In 0) Driver ∷ []) (take 1 (seen_of log seconds))
    ≡ (true ∷ true ∷ false ∷ false ∷ []) ∷ []
unfolding seen_of seconds_of cut_in kept_after is_torn_in found_in
entered_in_the_first_second = refl
