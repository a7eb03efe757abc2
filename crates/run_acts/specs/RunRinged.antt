-- What is carried of the rings of a run with cards, beside what is recorded of it (profile): between two seconds, and
-- within one; and what calls make of that.
use Rattle.std.specs.Prelude.{◌≡◌, ◌+◌, ◌-◌, ◌<◌, ◌≤◌, ◌++◌, ℕ, suc, Bool, true, false, Option, None, List, [], ◌∷◌}
use Rattle.std.specs.Prelude.{length, map, option_map}
use Rattle.activity_codec.specs.declared.values.Slot.{Slot}
use Rattle.trace_model.specs.declared.Action.{Action}
use Rattle.trace_model.specs.declared.Action.TheVariants.{Withdraw, Place}
use Rattle.trace_model.specs.declared.Card.{Card}
use Rattle.trace_model.specs.Trace.{TraceSecond, driven}
use Rattle.tacho_types.specs.declared.places.PlaceEntry.{PlaceEntry}
use Rattle.log_model.specs.declared.lines.Break.{Break}
use Rattle.log_model.specs.Log.{RunLog, In}
use Rattle.log_model.specs.Slots.{refusal}
use Rattle.log_model.specs.Course.{ToldSecond, went}
use Rattle.log_model.specs.Spans.{spans_of}
use Rattle.run_crew.specs.card_slots.Calls.{logged}
use Rattle.unit_model.specs.Image.{odometer_at}
use Rattle.device_calls.specs.unit_rule.Odometer.{odometer_after}
use Rattle.unit_notes.specs.note_model.Odometer.{SpanFrom}
use Rattle.device_calls.specs.safety_model.Safe.{Devices}
use Rattle.device_calls.specs.run_unit_course.Lines.{cut_at}
use Rattle.run_events.specs.run_course.Moments.{and_break}
use Rattle.run_crew.specs.Cards.{session_of}
use Rattle.run_outcome.specs.Lines.{Listed}
use Rattle.run_outcome.specs.declared.outcome.Outcome.{Outcome}
use Rattle.run_minutes.specs.run_promise.Origin.{Origin}
use Rattle.run_events.specs.run_rings.Spans.{with_second}
use Rattle.run_record.specs.Within.{Beginning}
use Rattle.run_note_record.specs.Noting.{Acting}
use Rattle.run_note_record.specs.Ringed.{Seating}
use Rattle.run_note_record.specs.RingsSoFar.{RingedBehind, RingedIn, IsSecond, HasMoreBreaks, GoesBehind}
use Rattle.run_note_record.specs.Steps.{nobody, spans_cut}
use Rattle.run_note_record.specs.Stored.{StoresOn, StoresOff, Stores}
use Rattle.run_minutes.specs.declared.keeper.Moment.{Moment}
use Rattle.run_minutes.specs.Books.{HaveTime}
use Rattle.run_acts.specs.declared.run.Run.{Run}
use Rattle.run_acts.specs.declared.run.Power.TheVariants.{Lit}
use Rattle.run_acts.specs.Power.{is_lit}
use Rattle.run_acts.specs.Recording.{log_of, RunWithin, ComesPower, IsNow}
use Rattle.run_acts.specs.Evented.{RunEvented, WithinEvented, CutEvented, LastAt}
use Rattle.run_acts.specs.Ringing.{seating_of, IsPlaceNow}

-- where the insertions of the accepted cards of a run stand
abbrev pub seats_of : Run → Card → Option Seating
seats_of run c = option_map (seating_of run.noted) (session_of run.keeper.cabin.cards c)

-- the span that goes on is the last, and began with this odometer
abbrev pub IsLastFrom : (base : ℕ) → List SpanFrom → Type 0
IsLastFrom base spans = (front : List SpanFrom) × (last : SpanFrom) × (spans ≡ front ++ last ∷ []) × (last.base ≡ base)

-- THE POWER SPANS within a second, which began by this log: the last of them, with it, began with this odometer
pub record AreSpansNow (done : List TraceSecond) (s : TraceSecond) (began : RunLog) (spans : List SpanFrom) (base : ℕ)
    (told : ToldSecond) : Type 0 where
  pub last : IsLastFrom base (with_second spans base told)
  pub are : map (λ (x : SpanFrom). x.span) spans ≡ spans_of (went began done).told
  pub second : IsSecond s (went began done).before told

-- BETWEEN TWO SECONDS: all is recorded, events are noted, and the rings show what these seconds noted; each span began
-- with what the unit had stored. No more insertions were noted than finds were told.
pub record RunRinged (o : Origin) (done : List TraceSecond) (run : Run) (out : Outcome) (d : Devices) : Type 0 where
  pub evented : RunEvented o done run out d
  pub spans : List SpanFrom
  pub base : run.power ≡ Lit → IsLastFrom run.keeper.odometer spans
  pub counted : run.noted ≤ length out.finds.items
  pub ringed : RingedBehind o done (log_of out) run.next spans (seats_of run) d
  pub stored : Stores (is_lit run.power) o (log_of out) run.unfound run.keeper.odometer spans d

-- ---- within a second

-- THE RINGS WITHIN A SECOND that began by this log, behind these of its actions: its span is the last, and began with
-- the odometer of a run
pub record RingsWithin (o : Origin) (done : List TraceSecond) (s : TraceSecond) (began : RunLog) (front : List Action)
    (run : Run) (log : RunLog) (spans : List SpanFrom) (told : ToldSecond) (d : Devices) : Type 0 where
  pub base : IsLastFrom run.keeper.odometer (with_second spans run.keeper.odometer told)
  pub counted : run.noted ≤ length log.finds
  pub ringed : RingedIn o done s began front log spans run.keeper.odometer told (seats_of run) d

-- WITHIN A SECOND, while there is power, behind so many of its actions: these
pub record WithinRinged (o : Origin) (done : List TraceSecond) (s : TraceSecond) (n : ℕ) (run : Run) (out : Outcome)
    (d : Devices) : Type 0 where
  pub evented : WithinEvented o done s (In n) [] [] Acting run out d
  pub front : List Action
  pub rest : List Action
  pub are : s.actions ≡ front ++ rest
  pub number : length front ≡ n
  pub spans : List SpanFrom
  pub told : ToldSecond
  pub rings : RingsWithin o done s evented.within.within.b.run.log front run (log_of out) spans told d
  -- by the log as the second began
  pub stored : StoresOn o evented.within.within.b.run.log evented.within.within.b.run.unfound run.keeper.odometer
      (with_second spans run.keeper.odometer told)

-- and where power was cut in it: no card is accepted any more
pub record CutRinged (o : Origin) (done : List TraceSecond) (s : TraceSecond) (run : Run) (out : Outcome)
    (d : Devices) : Type 0 where
  pub evented : CutEvented o done s run out d
  pub spans : List SpanFrom
  pub counted : run.noted ≤ length out.finds.items
  pub ringed : RingedBehind o (done ++ s ∷ []) (log_of out) (suc run.next) spans nobody d
  pub stored : StoresOff o (log_of out) run.unfound spans d

-- IN A SECOND, behind so many of its actions
abbrev pub InSecondRingedBy : (lit : Bool) → Origin → List TraceSecond → TraceSecond → (n : ℕ) → Run → Outcome → Devices
    → Type 0
InSecondRingedBy true o done s n run out d = WithinRinged o done s n run out d
InSecondRingedBy false o done s n run out d = CutRinged o done s run out d

-- with power, or cut, as the run has it
abbrev pub InSecondRinged : Origin → List TraceSecond → TraceSecond → (n : ℕ) → Run → Outcome → Devices → Type 0
InSecondRinged o done s n run out d = InSecondRingedBy (is_lit run.power) o done s n run out d

-- ---- what calls make of the rings

-- a log with the cut of a second in the last of these of its actions
abbrev pub with_cut : RunLog → TraceSecond → List Action → RunLog
with_cut log s front = and_break log (cut_at s.number true (length front))

-- the unit has failed in the last of these actions: the rings are as the cut leaves them that is told next; more was
-- told since the second began so, all of it of this second, and the odometer is the one of then
pub record RingsCut (o : Origin) (done : List TraceSecond) (s : TraceSecond) (b : Beginning) (front : List Action)
    (run : Run) (log : RunLog) (spans : List SpanFrom) (told : ToldSecond) (d : Devices) : Type 0 where
  pub counted : run.noted ≤ length log.finds
  pub lines : HasMoreBreaks b.run.log log
  pub behind : GoesBehind b.run.log (with_cut log s front) done
  pub odometer : run.keeper.odometer ≡ odometer_after (odometer_at o.recording.unit) b.travel.before
  pub ringed : RingedBehind o (done ++ s ∷ []) (with_cut log s front) (suc s.number)
      (spans_cut spans run.keeper.odometer (with_cut log s front) done s) nobody d

-- BEHIND A CALL in a second that began so its rings go on; or the unit has failed.
abbrev pub RingsGoOn : (failed : Bool) → Origin → List TraceSecond → TraceSecond → Beginning → (front : List Action)
    → Run → RunLog → List SpanFrom → ToldSecond → Devices → Type 0
RingsGoOn false o done s b front run log spans t d = RingsWithin o done s b.run.log front run log spans t d
RingsGoOn true o done s b front run log spans t d = RingsCut o done s b front run log spans t d

-- AN ACTION of a second is carried out, which slots and speed do not refuse.
abbrev pub RingsAction : Action → (begun speed : ℕ) → (failed : Bool) → (old new : Run) → (before after : Outcome)
    → (d e : Devices) → Type 0
RingsAction action begun speed failed old new before after d e = (o : Origin) (done : List TraceSecond)
    (s : TraceSecond) → IsNow s speed old →
    (front rest : List Action) → s.actions ≡ front ++ action ∷ rest → begun ≡ suc (length front)
    → refusal (logged old.keeper.cabin.slots.seats) speed action ≡ None →
    (w : RunWithin o done s (In (length front)) [] [] old before d) → (spans : List SpanFrom) (t : ToldSecond)
    → RingsWithin o done s w.within.b.run.log front old (log_of before) spans t d → HaveTime e →
    RingsGoOn failed o done s w.within.b (front ++ action ∷ []) new (log_of after) spans t e

-- A PLACE IS NOTED that is entered now
abbrev pub RingsPlace : Slot → PlaceEntry → Moment → (failed : Bool) → (old new : Run) → (breaks after : Listed Break)
    → (d e : Devices) → Type 0
RingsPlace slot entry at failed old new breaks after d e = (ending : Bool) (country region : ℕ)
    → IsPlaceNow ending country region old entry → at.late ≡ false → (speed : ℕ) (before : Outcome)
    → before.breaks ≡ breaks →
    RingsAction (Place slot ending country region) at.begun speed failed old new before
    (record before { breaks = after }) d e

-- A CARD IS WITHDRAWN
abbrev pub RingsWithdrawal : Slot → Moment → (failed : Bool) → (old new : Run) → (before after : Outcome)
    → (d e : Devices) → Type 0
RingsWithdrawal slot at failed old new before after d e = at.late ≡ false → (speed : ℕ)
    → RingsAction (Withdraw slot) at.begun speed failed old new before after d e

-- THE INTERRUPTION OF POWER IS NOTED, before any action, which writes no ring: power comes with the second.
abbrev pub RingsGap : (failed : Bool) → (old new : Run) → (breaks after : Listed Break) → (d e : Devices) → Type 0
RingsGap failed old new breaks after d e = (o : Origin) (done : List TraceSecond) (s : TraceSecond) (out : Outcome)
    → (w : RunWithin o done s (In 0) [] [] old (record out { breaks = breaks }) d)
    → ComesPower done (record out { breaks = breaks }) →
    (spans : List SpanFrom) (t : ToldSecond)
    → RingsWithin o done s w.within.b.run.log [] old (log_of (record out { breaks = breaks })) spans t d →
    RingsGoOn failed o done s w.within.b [] new (log_of (record out { breaks = after })) spans t e

-- BEHIND THESE SECONDS the rings show what they noted, by the power of a run
pub record TurnedRings (o : Origin) (done : List TraceSecond) (run : Run) (out : Outcome) (d : Devices) : Type 0 where
  pub spans : List SpanFrom
  pub base : run.power ≡ Lit → IsLastFrom run.keeper.odometer spans
  pub counted : run.noted ≤ length out.finds.items
  pub ringed : RingedBehind o done (log_of out) run.next spans (seats_of run) d
  pub stored : Stores (is_lit run.power) o (log_of out) run.unfound run.keeper.odometer spans d

-- N SECONDS of one minute: behind them the rings show what they noted.
abbrev pub RingsTurn : (n speed begun : ℕ) → (old new : Run) → (before after : Outcome) → (d e : Devices) → Type 0
RingsTurn n speed begun old new before after d e = (o : Origin) (done : List TraceSecond) (s : TraceSecond)
    → IsNow s speed old → length s.actions ≡ begun → (1 < n → (s.actions ≡ []) × LastAt done speed) →
    InSecondRinged o done s begun old before d → HaveTime e
    → RunRinged o (done ++ s ∷ driven (n - 1) (s.number + 1) speed []) new after e
