-- Worked rows: the events of short runs without cards, and what of them is sure.
use Rattle.std.proofs.Common.{◌≡◌, ℕ, ◌+◌, ◌/◌, true, false, List, [], ◌∷◌, refl}
use Rattle.trace_model.specs.declared.Item.{Item}
use Rattle.trace_model.specs.declared.Item.TheVariants.{Run, Off}
use Rattle.trace_model.specs.Trace.{seconds_of}
use Rattle.log_model.specs.declared.lines.Break.{Break}
use Rattle.log_model.specs.declared.lines.Break.TheVariants.{Cut}
use Rattle.log_model.specs.Log.{cut_in, kept_after, is_torn_in, found_in}
use Rattle.log_model.specs.Course.{went}
use Rattle.log_model.specs.Spans.{spans_of}
use Rattle.event_model.specs.declared.kinds.TheConstants.{DRIVING_WITHOUT_CARD, OVER_SPEEDING, POWER_INTERRUPTION}
use Rattle.event_model.specs.Spans.{bares_of, overs_of}
use Rattle.event_model.specs.Events.{Event, noted_with}
use Rattle.run_unit_course.specs.Lines.{log_of}
use Rattle.unit_events.specs.Plain.{nobody, plain_events}
use Rattle.unit_events.specs.Noted.{are_sure}

-- 2010-03-01 00:00:00
abbrev begin : ℕ
begin = 1267401600

-- the events of a type, where the limit is 90 km/h
abbrev events : (kind : ℕ) → List Break → List Item → List Event
events kind breaks lines = plain_events kind 90 (log_of breaks) (spans_of (went (log_of breaks) (seconds_of begin lines)).told)

-- of the three types: driving without a card, over speedings, interruptions
abbrev AreEvents : List Break → List Item → (bares overs gaps : List Event) → Type 0
AreEvents breaks lines bares overs gaps =
    (events DRIVING_WITHOUT_CARD breaks lines ≡ bares) × (events OVER_SPEEDING breaks lines ≡ overs) × (events POWER_INTERRUPTION breaks lines ≡ gaps)

-- a minute and a second at 100 km/h, then two minutes at rest: both runs end with its last second
fast_minute : AreEvents [] (Run 61 100 ∷ Run 120 0 ∷ [])
    (noted_with 0x04 0x4B8B0380 0x4B8B03BC nobody ∷ [])
    (record { kind = 0x07; begin = 0x4B8B0380; end = 0x4B8B03BC; most = 100; average = 100; at_begin = nobody; at_end = nobody } ∷ [])
    []
unfolding seconds_of went spans_of bares_of overs_of cut_in kept_after is_torn_in found_in
fast_minute = (refl, refl, refl)

-- a second less is no over speeding
slower_minute : AreEvents [] (Run 60 100 ∷ Run 120 0 ∷ []) (noted_with 0x04 0x4B8B0380 0x4B8B03BB nobody ∷ []) [] []
unfolding seconds_of went spans_of bares_of overs_of cut_in kept_after is_torn_in found_in
slower_minute = (refl, refl, refl)

-- driving to the trace's end is no event, nor is driving up to an `off` line
to_the_end : AreEvents [] (Run 1 0 ∷ Run 90 100 ∷ []) [] [] []
unfolding seconds_of went spans_of bares_of overs_of cut_in kept_after is_torn_in found_in
to_the_end = (refl, refl, refl)

up_to_off : AreEvents (Cut (begin + 89) 0 false 0 ∷ []) (Run 90 100 ∷ Off 30 ∷ Run 10 0 ∷ []) [] [] []
unfolding seconds_of went spans_of bares_of overs_of cut_in kept_after is_torn_in found_in
up_to_off = (refl, refl, refl)

-- ten minutes with power, ten without, and one with it, where minute 7 was found kept
dark_minutes : AreEvents (Cut (begin + 599) (begin / 60 + 7) false 0 ∷ []) (Run 600 0 ∷ Off 600 ∷ Run 60 0 ∷ [])
    [] [] (noted_with 0x08 (begin + 480) (begin + 1200) nobody ∷ [])
unfolding seconds_of went spans_of bares_of overs_of cut_in kept_after is_torn_in found_in
dark_minutes = (refl, refl, refl)

-- an event is not sure where a call failed in the second in which it is noted, and is where that was another one
failed_note : are_sure (log_of (Cut (begin + 61) 0 true 0 ∷ [])) (noted_with 0x04 begin (begin + 60) nobody ∷ []) ≡ false
failed_note = refl

failed_later : are_sure (log_of (Cut (begin + 62) 0 true 0 ∷ Cut (begin + 61) 0 false 0 ∷ [])) (noted_with 0x04 begin (begin + 60) nobody ∷ []) ≡ true
failed_later = refl
