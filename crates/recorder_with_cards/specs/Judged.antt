-- What is recorded of a run as a card is accepted or turned away, over devices that tell their images (profile).
use Rattle.std.specs.Prelude.{◌≡◌, ◌⊎◌, ℕ, suc, Bool, true, false, Option, Some, None, List, [], slice_get}
use Rattle.activity_codec.specs.declared.values.Slot.{Slot}
use Rattle.activity_codec.specs.declared.values.Slot.TheVariants.{Driver, CoDriver}
use Rattle.trace_model.specs.declared.Card.{Card}
use Rattle.trace_model.specs.Trace.{TraceSecond}
use Rattle.log_model.specs.Log.{RunLog, In, found_in}
use Rattle.log_model.specs.Slots.{other_slot}
use Rattle.log_model.specs.Course.{Visit, went}
use Rattle.device_calls.specs.safety_model.Safe.{Devices}
use Rattle.run_acts.specs.run_course.Reached.{moved_at}
use Rattle.run_minutes.specs.declared.keeper.Moment.{Moment}
use Rattle.run_minutes.specs.Books.{HaveTime}
use Rattle.run_outcome.specs.declared.outcome.Outcome.{Outcome}
use Rattle.run_minutes.specs.run_promise.Origin.{Origin}
use Rattle.run_acts.specs.run_record.Judging.{IsNext}
use Rattle.run_acts.specs.run_record.Within.{Beginning}
use Rattle.run_acts.specs.run_note_record.EventsSoFar.{EventedNow, AreBare, ComesInTurn, puts_into, stage_in}
use Rattle.run_acts.specs.declared.run.Run.{Run}
use Rattle.run_acts.specs.Recording.{log_of, values_of, RunWithin, GoesOnOrCut}
use Rattle.run_acts.specs.Evented.{EventsGoOn}

-- the moment of a second behind so many of its actions
abbrev pub moment_in : TraceSecond → (n : ℕ) → Moment
moment_in s n = record { second = s.number; begun = n; late = false }

-- A CARD WAITS in a slot of a run, and is the next to be judged: all minutes before this second's are kept, and nothing
-- was found of it yet at this moment; of the driver's card it is found before anything is of the co-driver's.
pub record RunNext (o : Origin) (done : List TraceSecond) (s : TraceSecond) (n : ℕ) (waits fewer : List Visit)
    (run : Run) (out : Outcome) (d : Devices) (slot : Slot) (card : Card) : Type 0 where
  pub goes : RunWithin o done s (In n) waits [] run out d
  pub next : IsNext o done s (In n) waits fewer (values_of run out) d goes.within slot card
  pub none : found_in (log_of out) s.number (In n) slot ≡ []
  pub order : slot ≡ Driver → ((moved_at (log_of out) (went goes.within.b.run.log done).before s (In n)).enters CoDriver
      ≡ false) ⊎ (found_in (log_of out) s.number (In n) CoDriver ≡ [])

-- THE SECOND GOES ON at that moment, where the others wait: it began as before, and no minute was kept
pub record RunBehind (o : Origin) (done : List TraceSecond) (s : TraceSecond) (n : ℕ) (waits fewer : List Visit)
    (old new : Run) (before after : Outcome) (d e : Devices)
    (w : RunWithin o done s (In n) waits [] old before d) : Type 0 where
  pub goes : RunWithin o done s (In n) fewer [] new after e
  pub began : goes.within.b ≡ w.within.b
  pub from : goes.within.from ≡ w.within.from

-- or the unit failed
abbrev pub JudgedTo : (failed : Bool)
    → (o : Origin) (done : List TraceSecond) (s : TraceSecond) (n : ℕ) (waits fewer : List Visit) (old new : Run)
    (before after : Outcome) (d e : Devices) → RunWithin o done s (In n) waits [] old before d → Type 0
JudgedTo false o done s n waits fewer old new before after d e w = RunBehind o done s n waits fewer old new before after
    d e w
JudgedTo true o done s n waits fewer old new before after d e w = GoesOnOrCut true o done s (In n) fewer new after e

-- A CARD WAS JUDGED that was the next: so it is recorded.
abbrev pub JudgesSo : Slot → Card → Moment → (failed : Bool) → (old new : Run) → (before after : Outcome)
    → (d e : Devices) → Type 0
JudgesSo slot card at failed old new before after d e = (o : Origin) (done : List TraceSecond) (s : TraceSecond) (n : ℕ)
    (waits fewer : List Visit) → at ≡ moment_in s n →
    (next : RunNext o done s n waits fewer old before d slot card) → HaveTime e
    → JudgedTo failed o done s n waits fewer old new before after d e next.goes

-- the card of a slot, if there is one
abbrev pub JudgesAnew : Option Card → Slot → Moment → (failed : Bool) → (old new : Run) → (before after : Outcome)
    → (d e : Devices) → Type 0
JudgesAnew None slot at failed old new before after d e = failed ≡ false
JudgesAnew (Some card) slot at failed old new before after d e = JudgesSo slot card at failed old new before after d e

-- ---- its events

-- A CARD IS JUDGED IN ITS TURN: at a power-on the span begins with it, no card is accepted yet, and the driver's comes
-- before all of the co-driver's; in an action nothing was found of the card of the other slot, and none is put there.
pub record IsInTurn (b : Beginning) (done : List TraceSecond) (s : TraceSecond) (n : ℕ) (log : RunLog)
    (slot : Slot) : Type 0 where
  pub first : n ≡ 0 → AreBare (went b.run.log done).before.slots × ComesInTurn slot log s.number
  pub starts : n ≡ 0 → b.span ≡ []
  pub other_unfound : (m : ℕ) → n ≡ suc m → found_in log s.number (In n) (other_slot slot) ≡ []
  pub apart : (m : ℕ) → n ≡ suc m → puts_into (other_slot slot) (slice_get s.actions m) ≡ false

-- WHAT IT BRINGS IS NOTED, or the unit has failed in that: its events are told by an image that a stop might have left
-- of it.
abbrev pub EventsJudged : Slot → Card → Moment → (speed : ℕ) → (failed : Bool) → (old new : Run)
    → (before after : Outcome) → (d e : Devices) → Type 0
EventsJudged slot card at speed failed old new before after d e = (o : Origin) (done : List TraceSecond)
    (s : TraceSecond) (n : ℕ) (waits fewer : List Visit) → at ≡ moment_in s n → s.speed ≡ speed →
    (next : RunNext o done s n waits fewer old before d slot card)
    → IsInTurn next.goes.within.b done s n (log_of before) slot
    → EventedNow o done s next.goes.within.b.run (stage_in n) (log_of before) d → HaveTime e →
    EventsGoOn failed o done s next.goes.within.b.run (In n) (stage_in n) (log_of after) e

-- the card of a slot, if there is one
abbrev pub EventsAnew : Option Card → Slot → Moment → (speed : ℕ) → (failed : Bool) → (old new : Run)
    → (before after : Outcome) → (d e : Devices) → Type 0
EventsAnew None slot at speed failed old new before after d e = Unit {0}
EventsAnew (Some card) slot at speed failed old new before after d e = EventsJudged slot card at speed failed old new
    before after d e
