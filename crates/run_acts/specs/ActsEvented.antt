-- What an action of a second that needs no card to be judged does to the events that are noted so far (Annex IB,
-- section III.12; profile).
use Rattle.std.specs.Prelude.{◌≡◌, ℕ, Bool, true, false, List, []}
use Rattle.activity_codec.specs.declared.values.Slot.{Slot}
use Rattle.trace_model.specs.declared.Action.{Action}
use Rattle.trace_model.specs.declared.Action.TheVariants.{Withdraw, Place}
use Rattle.trace_model.specs.Trace.{TraceSecond}
use Rattle.log_model.specs.run_model.declared.Device.{Device}
use Rattle.log_model.specs.run_model.declared.Device.TheVariants.{Unit as Recorder}
use Rattle.log_model.specs.declared.lines.Break.{Break}
use Rattle.log_model.specs.Log.{RunLog, Phase, In}
use Rattle.log_model.specs.Causes.{RoseBy}
use Rattle.log_model.specs.Course.{Visit, went}
use Rattle.device_calls.specs.safety_model.Safe.{Devices, breakdowns_of}
use Rattle.run_events.specs.run_course.Followed.{Progress}
use Rattle.run_events.specs.run_course.Moment.{Moment as HasReached}
use Rattle.run_events.specs.run_course.Telling.{IsMore, IsLeft}
use Rattle.run_minutes.specs.run_promise.Origin.{Origin}
use Rattle.run_minutes.specs.run_promise.Beside.{HaveLeftMore}
use Rattle.run_outcome.specs.Lines.{Listed}
use Rattle.run_outcome.specs.declared.outcome.Outcome.{Outcome}
use Rattle.run_minutes.specs.declared.keeper.Moment.{Moment}
use Rattle.run_acts.specs.declared.run.Run.{Run}
use Rattle.run_acts.specs.Recording.{log_of, RunWithin, ComesPower}
use Rattle.run_acts.specs.Evented.{EventsAction}

-- A PLACE IS NOTED
abbrev pub EventsPlace : Slot → Moment → (failed : Bool) → (old new : Run) → (breaks after : Listed Break)
    → (d e : Devices) → Type 0
EventsPlace slot at failed old new breaks after d e = at.late ≡ false
    → (ending : Bool) (country region speed : ℕ) (before : Outcome) → before.breaks ≡ breaks →
    EventsAction (Place slot ending country region) at.begun speed failed old new before
    (record before { breaks = after }) d e

-- A CARD IS WITHDRAWN
abbrev pub EventsWithdrawal : Slot → Moment → (failed : Bool) → (old new : Run) → (before after : Outcome)
    → (d e : Devices) → Type 0
EventsWithdrawal slot at failed old new before after d e = at.late ≡ false → (speed : ℕ)
    → EventsAction (Withdraw slot) at.begun speed failed old new before after d e

-- A CALL ON THE UNIT HAS FAILED at a moment of a second that began so: the cut may be told.
pub record IsFailing (o : Origin) (done : List TraceSecond) (s : TraceSecond) (p : Progress) (at : Phase) (log : RunLog)
    (after : Device → ℕ) : Type 0 where
  pub waits : List Visit
  pub mid : Device → ℕ
  pub now : Device → ℕ
  pub moment : HasReached p (went p.log done).before s at log waits mid now
  pub more : IsMore now after
  pub rose : RoseBy 1 (mid Recorder) (after Recorder)
  pub rest : List Action
  pub left : IsLeft s at rest

-- A NOTE BEFORE ANY ACTION, where power comes with the second: what a stop might have left before it might have left
-- still; and where the unit has failed in it the cut may be told.
abbrev pub NoteLeaves : (failed : Bool) → (old : Run) → (breaks after : Listed Break) → (d e : Devices) → Type 0
NoteLeaves failed old breaks after d e = (o : Origin) (done : List TraceSecond) (s : TraceSecond) (out : Outcome)
    → (w : RunWithin o done s (In 0) [] [] old (record out { breaks = breaks }) d)
    → ComesPower done (record out { breaks = breaks }) →
    HaveLeftMore o d e × (failed ≡ true
    → IsFailing o done s w.within.b.run (In 0) (log_of (record out { breaks = after })) (breakdowns_of e))
