-- What is noted of the events and faults of a run with cards, beside what is recorded of it (Annex IB, section III.12;
-- profile): between two seconds, and within one.
use Rattle.std.specs.Prelude.{◌≡◌, ◌+◌, ◌-◌, ◌<◌, Bool, true, false, None, List, [], ◌∷◌, ◌++◌, ℕ, suc, length, map}
use Rattle.std.specs.Prelude.{slice_get}
use Rattle.std.specs.List.{AllByRecursion}
use Rattle.activity_codec.specs.declared.values.Slot.{Slot}
use Rattle.trace_model.specs.declared.Action.{Action}
use Rattle.trace_model.specs.Trace.{TraceSecond, driven}
use Rattle.unit_model.specs.minute_model.declared.Minute.{Minute}
use Rattle.log_model.specs.Log.{RunLog, Phase, In, is_torn_in, found_in}
use Rattle.log_model.specs.Course.{Visit}
use Rattle.log_model.specs.Slots.{refusal}
use Rattle.unit_notes.specs.event_model.Events.{Seen, seen_of, seen_spans, crew_of}
use Rattle.run_crew.specs.card_slots.Calls.{logged}
use Rattle.device_calls.specs.run_unit_course.Lines.{cut_at}
use Rattle.device_calls.specs.run_unit_course.Followed.{UnitPower, Lost as IsLost}
use Rattle.device_calls.specs.safety_model.Safe.{Devices}
use Rattle.run_events.specs.run_course.Moments.{and_break}
use Rattle.run_events.specs.run_course.Followed.{Progress}
use Rattle.run_events.specs.run_course.Telling.{begun_by}
use Rattle.run_events.specs.Seconds.{last_of, span_before, seen_next}
use Rattle.run_crew.specs.declared.cabin.Cabin.{Cabin}
use Rattle.run_outcome.specs.declared.outcome.Outcome.{Outcome}
use Rattle.run_minutes.specs.run_promise.Origin.{Origin}
use Rattle.run_note_record.specs.Evented.{limit_in, Evented}
use Rattle.run_note_record.specs.Noting.{Stage, Acting}
use Rattle.run_note_record.specs.EventsSoFar.{EventedNow, puts_into}
use Rattle.run_events.specs.declared.watch.Watch.{Watch}
use Rattle.run_events.specs.Watching.{WatchesSpan}
use Rattle.run_events.specs.Watched.{watched}
use Rattle.run_events.specs.Turned.{AreLow}
use Rattle.run_minutes.specs.declared.keeper.Moment.{Moment}
use Rattle.run_minutes.specs.Books.{HaveTime}
use Rattle.run_acts.specs.declared.run.Run.{Run}
use Rattle.run_acts.specs.declared.run.Power.TheVariants.{Lit}
use Rattle.run_acts.specs.Power.{is_lit, passed}
use Rattle.run_acts.specs.Recording.{log_of, Supplies, RunRecorded, RunWithin, RunCut, IsNow}
use Rattle.run_acts.specs.Named.{CrewValid, watched_as}
use Rattle.run_acts.specs.Acting.{IsBareIn}
use Rattle.run_acts.specs.Settling.{settled_run}

-- a span is watched for its events, which has had these seconds, each with cards that are valid
pub record IsWatching (o : Origin) (span : List Seen) (w : Watch) : Type 0 where
  pub stands : WatchesSpan w (map (watched (watched_as o)) span)
  pub limit : w.over.limit ≡ limit_in o
  pub low : AreLow span
  pub valid : AllByRecursion (λ x. CrewValid o (crew_of x.itself)) span

-- the seconds of the span that goes on
abbrev pub span_of : RunLog → List TraceSecond → List Seen
span_of log done = last_of (seen_spans (seen_of log done))

-- BETWEEN TWO SECONDS: all is recorded, and the events of these seconds are noted.
pub record RunEvented (o : Origin) (done : List TraceSecond) (run : Run) (out : Outcome) (d : Devices) : Type 0 where
  pub recorded : RunRecorded o done run out d
  pub evented : Evented o done (log_of out) run.unfound run.next recorded.supply d
  pub limit : run.keeper.memory.limit ≡ limit_in o
  pub watched : run.power ≡ Lit → IsWatching o (span_of (log_of out) done) run.watch

-- ---- within a second

-- the seconds of its span before one, by the log as it began
abbrev pub span_seen : Progress → List TraceSecond → TraceSecond → List Seen
span_seen p done s = span_before (seen_spans (seen_of p.log done)) (seen_next p.log done s)

-- a run watches that span, by the limit of the unit
pub record RunWatches (o : Origin) (span : List Seen) (run : Run) : Type 0 where
  pub limit : run.keeper.memory.limit ≡ limit_in o
  pub watched : IsWatching o span run.watch

-- all that is carried within a second, while there is power
pub record WithinEvented (o : Origin) (done : List TraceSecond) (s : TraceSecond) (at : Phase) (waits : List Visit)
    (rest : List Minute) (stage : Stage) (run : Run) (out : Outcome) (d : Devices) : Type 0 where
  pub within : RunWithin o done s at waits rest run out d
  pub evented : EventedNow o done s within.within.b.run stage (log_of out) d
  pub watches : RunWatches o (span_seen within.within.b.run done s) run

-- and where power was cut in it
pub record CutEvented (o : Origin) (done : List TraceSecond) (s : TraceSecond) (run : Run) (out : Outcome)
    (d : Devices) : Type 0 where
  pub cut : RunCut o done s run out d
  pub evented : Evented o (done ++ s ∷ []) (log_of out) run.unfound (suc run.next) IsLost d
  pub limit : run.keeper.memory.limit ≡ limit_in o

-- IN A SECOND, behind so many of its actions
abbrev pub InSecondEventedBy : (lit : Bool) → Origin → List TraceSecond → TraceSecond → (n : ℕ) → Run → Outcome
    → Devices → Type 0
InSecondEventedBy true o done s n run out d = WithinEvented o done s (In n) [] [] Acting run out d
InSecondEventedBy false o done s n run out d = CutEvented o done s run out d

-- with power, or cut, as the run has it
abbrev pub InSecondEvented : Origin → List TraceSecond → TraceSecond → (n : ℕ) → Run → Outcome → Devices → Type 0
InSecondEvented o done s n run out d = InSecondEventedBy (is_lit run.power) o done s n run out d

-- ---- what calls say of events

-- BEHIND A CALL at a moment of a second that began so, by the log then: its events are noted so far; or, where the unit
-- has failed, they are as the cut leaves them that is told next.
abbrev pub EventsGoOn : (failed : Bool) → Origin → List TraceSecond → TraceSecond → Progress → (at : Phase) → Stage
    → RunLog → Devices → Type 0
EventsGoOn false o done s p at stage log d = EventedNow o done s p stage log d
EventsGoOn true o done s p at stage log d = Evented o (done ++ s ∷ [])
    (and_break log (cut_at s.number true (begun_by s at))) p.unfound (suc p.next) IsLost d

-- AN ACTION of a second is carried out, which slots and speed do not refuse.
abbrev pub EventsAction : Action → (begun speed : ℕ) → (failed : Bool) → (old new : Run) → (before after : Outcome)
    → (d e : Devices) → Type 0
EventsAction action begun speed failed old new before after d e = (o : Origin) (done : List TraceSecond)
    (s : TraceSecond) → IsNow s speed old →
    (front rest : List Action) → s.actions ≡ front ++ action ∷ rest → begun ≡ suc (length front)
    → refusal (logged old.keeper.cabin.slots.seats) speed action ≡ None →
    (w : RunWithin o done s (In (length front)) [] [] old before d)
    → EventedNow o done s w.within.b.run Acting (log_of before) d → HaveTime e →
    EventsGoOn failed o done s w.within.b.run (In begun) Acting (log_of after) e

-- AS MINUTES ARE KEPT in an action nothing is told of it yet, and no card is accepted in a slot into which it puts one.
pub record IsUntold (s : TraceSecond) (n : ℕ) (log : RunLog) (cabin : Cabin) : Type 0 where
  pub torn : (slot : Slot) → is_torn_in log s.number (In (suc n)) slot ≡ false
  pub found : (slot : Slot) → found_in log s.number (In (suc n)) slot ≡ []
  pub bare : (slot : Slot) → puts_into slot (slice_get s.actions n) ≡ true → IsBareIn cabin slot

-- THE MINUTES THAT A SETTLING DECIDES were to be kept in an action.
abbrev pub EventsSettling : (decided : List Minute) → Moment → (failed : Bool) → (old new : Run)
    → (before after : Outcome) → (d e : Devices) → Type 0
EventsSettling decided at failed old new before after d e = (o : Origin) (done : List TraceSecond) (s : TraceSecond)
    (n : ℕ) (waits : List Visit) → at ≡ record { second = s.number; begun = suc n; late = false } →
    (w : RunWithin o done s (In (suc n)) waits decided (settled_run new.minutes old) before d)
    → IsUntold s n (log_of before) old.keeper.cabin → EventedNow o done s w.within.b.run Acting (log_of before) d
    → HaveTime e →
    EventsGoOn failed o done s w.within.b.run (In (suc n)) Acting (log_of after) e

-- the last of these seconds had this speed
abbrev pub LastAt : List TraceSecond → (speed : ℕ) → Type 0
LastAt done speed = (front : List TraceSecond) × (y : TraceSecond) × (done ≡ front ++ y ∷ []) × (y.speed ≡ speed)

-- BEHIND THESE SECONDS the events are noted, by the power of a run
pub record TurnedEvents (o : Origin) (done : List TraceSecond) (run : Run) (out : Outcome) (d : Devices) : Type 0 where
  pub supply : UnitPower
  pub powers : Supplies run.power supply
  pub evented : Evented o done (log_of out) run.unfound run.next supply d
  pub limit : run.keeper.memory.limit ≡ limit_in o
  pub watched : run.power ≡ Lit → IsWatching o (span_of (log_of out) done) run.watch

-- n seconds with power
abbrev pub EventsLitTurn : (n speed begun : ℕ) → (old new : Run) → (before after : Outcome) → (d e : Devices) → Type 0
EventsLitTurn n speed begun old new before after d e = (o : Origin) (done : List TraceSecond) (s : TraceSecond)
    → IsNow s speed old → length s.actions ≡ begun → (1 < n → (s.actions ≡ []) × LastAt done speed) →
    WithinEvented o done s (In begun) [] [] Acting old before d → HaveTime e
    → TurnedEvents o (done ++ s ∷ driven (n - 1) (s.number + 1) speed []) (passed n begun new) after e

-- N SECONDS of one minute: more than one come behind one at their speed
abbrev pub EventsTurn : (n speed begun : ℕ) → (old new : Run) → (before after : Outcome) → (d e : Devices) → Type 0
EventsTurn n speed begun old new before after d e = (o : Origin) (done : List TraceSecond) (s : TraceSecond)
    → IsNow s speed old → length s.actions ≡ begun → (1 < n → (s.actions ≡ []) × LastAt done speed) →
    InSecondEvented o done s begun old before d → HaveTime e
    → RunEvented o (done ++ s ∷ driven (n - 1) (s.number + 1) speed []) new after e
