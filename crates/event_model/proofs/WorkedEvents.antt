-- Worked events of runs, computed from the lines of a trace and a written run log.
use Rattle.std.proofs.Common.{◌≡◌, ℕ, ◌+◌, ◌/◌, true, false, cond, Some, None, List, [], ◌∷◌, refl}
use Rattle.std.specs.Prelude.{Bool, nat_eq}
use Rattle.activity_codec.specs.declared.values.Slot.{Slot}
use Rattle.activity_codec.specs.declared.values.Slot.TheVariants.{Driver, CoDriver}
use Rattle.trace_model.specs.declared.Card.{Card}
use Rattle.trace_model.specs.declared.Card.TheVariants.{A, B}
use Rattle.trace_model.specs.declared.Action.TheVariants.{Insert, Withdraw}
use Rattle.trace_model.specs.declared.Item.{Item}
use Rattle.trace_model.specs.declared.Item.TheVariants.{Run, Off, Act}
use Rattle.trace_model.specs.Trace.{seconds_of}
use Rattle.log_model.specs.declared.lines.Break.{Break}
use Rattle.log_model.specs.declared.lines.Break.TheVariants.{Cut, Tear}
use Rattle.log_model.specs.declared.lines.Find.{Find}
use Rattle.log_model.specs.declared.lines.Verdict.{Verdict}
use Rattle.log_model.specs.declared.lines.Verdict.TheVariants.{Accepted, TimeOverlap}
use Rattle.log_model.specs.Log.{RunLog, cut_in, kept_after, is_torn_in, found_in}
use Rattle.log_model.specs.Course.{Visit}
use Rattle.event_model.specs.Events.{Crew, Event, Tearing, noted_with, seen_of, events_of}

-- 2010-03-01 00:00:00
abbrev start : ℕ
start = 1267401600

abbrev logged : List Break → List Find → RunLog
logged breaks finds = record { breaks = breaks; refused = []; finds = finds }

abbrev found : Slot → (second begun : ℕ) → Verdict → Find
found slot second begun verdict = record { second = second; slot = slot; verdict = verdict; begun = begun }

-- no card in either slot
abbrev nobody : Crew
nobody = record { driver = None; codriver = None }

-- no session was found open
abbrev none_open : ℕ → Visit → ℕ
none_open second visit = 0

-- a card that is torn out at a power-on is so as it is judged, and of two that are in one action the driver's is the first
abbrev plain : Tearing
plain = record { by_gap = λ u slot. false; driver_first = λ u n. true }

-- the events of a type, with limit 90, by a choice of what no log tells of tears
abbrev of_type_by : Tearing → ℕ → (ℕ → Visit → ℕ) → RunLog → List Item → List Event
of_type_by t kind sessions log lines = events_of kind 90 sessions t log (seconds_of start lines)

abbrev of_type : ℕ → (ℕ → Visit → ℕ) → RunLog → List Item → List Event
of_type = of_type_by plain

-- a minute and a second at 100 km/h without a card, then two minutes at rest
abbrev fast_minute : List Item
fast_minute = Run 61 100 ∷ Run 120 0 ∷ []

over_speeding : of_type 0x07 none_open (logged [] []) fast_minute
    ≡ record { kind = 0x07; begin = 0x4B8B0380; end = 0x4B8B03BC; most = 100; average = 100; at_begin = nobody; at_end = nobody } ∷ []
unfolding seen_of seconds_of cut_in kept_after is_torn_in found_in
over_speeding = refl

without_a_card : of_type 0x04 none_open (logged [] []) fast_minute ≡ noted_with 0x04 0x4B8B0380 0x4B8B03BC nobody ∷ []
unfolding seen_of seconds_of cut_in kept_after is_torn_in found_in
without_a_card = refl

-- A card is torn out by a failed call in the keeping of a minute, and put in again two minutes later.
abbrev torn_card : List Item
torn_card = Act (Insert Driver A) ∷ Run 60 0 ∷ Run 300 50 ∷ Act (Insert Driver A) ∷ Run 60 0 ∷ []

abbrev torn_log : RunLog
torn_log = logged (Tear (start + 239) Driver true 0 true ∷ []) (found Driver start 1 (Accepted 0) ∷ found Driver (start + 360) 1 (Accepted 2) ∷ [])

-- its session was open then
abbrev open_at_second : ℕ → Visit → ℕ
open_at_second second visit = cond (nat_eq second (start + 360)) start 0

driving_without_it : of_type 0x04 open_at_second torn_log torn_card ≡ noted_with 0x04 (start + 240) (start + 359) nobody ∷ []
unfolding seen_of seconds_of cut_in kept_after is_torn_in found_in
driving_without_it = refl

its_fault : of_type 0x40 open_at_second torn_log torn_card ≡ noted_with 0x40 (start + 239) (start + 239) nobody ∷ []
unfolding seen_of seconds_of cut_in kept_after is_torn_in found_in
its_fault = refl

its_session : of_type 0x06 open_at_second torn_log torn_card
    ≡ noted_with 0x06 start (start + 360) (record { driver = Some A; codriver = None }) ∷ []
unfolding seen_of seconds_of cut_in kept_after is_torn_in found_in
its_session = refl

put_in_at_rest : of_type 0x05 open_at_second torn_log torn_card ≡ []
unfolding seen_of seconds_of cut_in kept_after is_torn_in found_in
put_in_at_rest = refl

-- Ten minutes with power, ten without, ten with it: minute 7 was found kept.
abbrev dark_minutes : List Item
dark_minutes = Run 600 0 ∷ Off 600 ∷ Run 60 0 ∷ []

interruption : of_type 0x08 none_open (logged (Cut (start + 599) (start / 60 + 7) false 0 ∷ []) []) dark_minutes
    ≡ noted_with 0x08 (start + 480) (start + 1200) nobody ∷ []
unfolding seen_of seconds_of cut_in kept_after is_torn_in found_in
interruption = refl

-- nothing was kept: no event
nothing_kept : of_type 0x08 none_open (logged (Cut (start + 59) 0 false 0 ∷ []) []) (Run 60 0 ∷ Off 600 ∷ Run 60 0 ∷ []) ≡ []
unfolding seen_of seconds_of cut_in kept_after is_torn_in found_in
nothing_kept = refl

-- A card enters the driver slot in motion, a second one that is not valid the co-driver's, and one whose time is later.
abbrev in_motion : List Item
in_motion = Run 1 30 ∷ Act (Insert Driver A) ∷ Act (Insert CoDriver B) ∷ Run 2 30 ∷ []

insertion_while_driving : of_type 0x05 none_open (logged [] (found Driver (start + 1) 1 (Accepted 0) ∷ found CoDriver (start + 1) 2 (Accepted 0) ∷ [])) in_motion
    ≡ noted_with 0x05 (start + 1) (start + 1) (record { driver = Some A; codriver = None })
    ∷ noted_with 0x05 (start + 1) (start + 1) (record { driver = Some A; codriver = Some B }) ∷ []
unfolding seen_of seconds_of cut_in kept_after is_torn_in found_in
insertion_while_driving = refl

time_overlap : of_type 0x03 none_open (logged [] (found Driver (start + 1) 1 (Accepted 0) ∷ found CoDriver (start + 1) 2 (TimeOverlap (start + 99) (start + 1)) ∷ [])) in_motion
    ≡ noted_with 0x03 (start + 1) (start + 99) (record { driver = Some A; codriver = None }) ∷ []
unfolding seen_of seconds_of cut_in kept_after is_torn_in found_in
time_overlap = refl

-- Two accepted cards lose power, and are accepted anew ten minutes later, with this many seconds at this speed from then on.
abbrev two_cards : (speed : ℕ) → List Item
two_cards speed = Act (Insert Driver A) ∷ Act (Insert CoDriver B) ∷ Run 600 0 ∷ Off 600 ∷ Run 2 speed ∷ []

-- both are torn out at the power-on
abbrev both_torn : RunLog
both_torn = logged
    (Cut (start + 599) (start / 60 + 7) false 0 ∷ Tear (start + 1200) Driver true 0 false ∷ Tear (start + 1200) CoDriver true 0 false ∷ [])
    (found Driver start 1 (Accepted 0) ∷ found CoDriver start 2 (Accepted 0) ∷ found Driver (start + 1200) 0 (Accepted 0) ∷ found CoDriver (start + 1200) 0 (Accepted 0) ∷ [])

abbrev driver_alone : Card → Crew
driver_alone card = record { driver = Some card; codriver = None }

abbrev codriver_alone : Card → Crew
codriver_alone card = record { driver = None; codriver = Some card }

-- at rest both are so as the interruption is noted on them: it has both, and the driver's fault has the co-driver's card
abbrev both_by_gap : Tearing
both_by_gap = record { by_gap = λ u slot. true; driver_first = λ u n. true }

interruption_of_both : of_type_by both_by_gap 0x08 none_open both_torn (two_cards 0) ≡ noted_with 0x08 (start + 480) (start + 1200) (record { driver = Some A; codriver = Some B }) ∷ []
unfolding seen_of seconds_of cut_in kept_after is_torn_in found_in
interruption_of_both = refl

faults_of_both : of_type_by both_by_gap 0x40 none_open both_torn (two_cards 0)
    ≡ noted_with 0x40 (start + 1200) (start + 1200) (codriver_alone B) ∷ noted_with 0x40 (start + 1200) (start + 1200) nobody ∷ []
unfolding seen_of seconds_of cut_in kept_after is_torn_in found_in
faults_of_both = refl

-- in motion the co-driver's may be so as it is judged, and the driver's as the interruption is noted: this has the driver's card alone, and
-- the co-driver's fault, which has the driver's card, comes first
abbrev driver_by_gap : Tearing
driver_by_gap = record { by_gap = λ u slot. is_driver slot; driver_first = λ u n. true }
  where
    is_driver : Slot → Bool
    is_driver Driver = true
    is_driver CoDriver = false

interruption_in_motion : of_type_by driver_by_gap 0x08 none_open both_torn (two_cards 30) ≡ noted_with 0x08 (start + 480) (start + 1200) (driver_alone A) ∷ []
unfolding seen_of seconds_of cut_in kept_after is_torn_in found_in
interruption_in_motion = refl

faults_in_motion : of_type_by driver_by_gap 0x40 none_open both_torn (two_cards 30)
    ≡ noted_with 0x40 (start + 1200) (start + 1200) (driver_alone A) ∷ noted_with 0x40 (start + 1200) (start + 1200) nobody ∷ []
unfolding seen_of seconds_of cut_in kept_after is_torn_in found_in
faults_in_motion = refl

-- each is accepted before it is torn out
insertions_in_motion : of_type_by driver_by_gap 0x05 none_open both_torn (two_cards 30)
    ≡ noted_with 0x05 (start + 1200) (start + 1200) (driver_alone A) ∷ noted_with 0x05 (start + 1200) (start + 1200) (record { driver = Some A; codriver = Some B }) ∷ []
unfolding seen_of seconds_of cut_in kept_after is_torn_in found_in
insertions_in_motion = refl

-- or both may be so as they are judged: the interruption has no card
interruption_without_cards : of_type 0x08 none_open both_torn (two_cards 30) ≡ noted_with 0x08 (start + 480) (start + 1200) nobody ∷ []
unfolding seen_of seconds_of cut_in kept_after is_torn_in found_in
interruption_without_cards = refl

-- The driver's card is withdrawn, and what that settles tears both out: the driver's is out of its slot by then.
abbrev withdrawn : List Item
withdrawn = Act (Insert Driver A) ∷ Act (Insert CoDriver B) ∷ Run 300 0 ∷ Act (Withdraw Driver) ∷ Run 60 0 ∷ []

abbrev torn_by_settling : RunLog
torn_by_settling = logged (Tear (start + 300) Driver true 1 false ∷ Tear (start + 300) CoDriver true 1 false ∷ [])
    (found Driver start 1 (Accepted 0) ∷ found CoDriver start 2 (Accepted 0) ∷ [])

withdrawal_of_the_first : of_type 0x40 none_open torn_by_settling withdrawn
    ≡ noted_with 0x40 (start + 300) (start + 300) (codriver_alone B) ∷ noted_with 0x40 (start + 300) (start + 300) nobody ∷ []
unfolding seen_of seconds_of cut_in kept_after is_torn_in found_in
withdrawal_of_the_first = refl

-- or the co-driver's is torn out by the settling, and then the driver's as its session is closed
abbrev codriver_first : Tearing
codriver_first = record { by_gap = λ u slot. false; driver_first = λ u n. false }

withdrawal_of_the_last : of_type_by codriver_first 0x40 none_open torn_by_settling withdrawn
    ≡ noted_with 0x40 (start + 300) (start + 300) nobody ∷ noted_with 0x40 (start + 300) (start + 300) nobody ∷ []
unfolding seen_of seconds_of cut_in kept_after is_torn_in found_in
withdrawal_of_the_last = refl

-- A card is put into the driver slot, and what that settles tears the co-driver's out: the driver's is not accepted by then.
put_in_beside : of_type_by codriver_first 0x40 none_open
    (logged (Tear (start + 300) CoDriver true 1 false ∷ []) (found CoDriver start 1 (Accepted 0) ∷ found Driver (start + 300) 1 (Accepted 0) ∷ []))
    (Act (Insert CoDriver B) ∷ Run 300 0 ∷ Act (Insert Driver A) ∷ Run 60 0 ∷ [])
    ≡ noted_with 0x40 (start + 300) (start + 300) nobody ∷ []
unfolding seen_of seconds_of cut_in kept_after is_torn_in found_in
put_in_beside = refl
