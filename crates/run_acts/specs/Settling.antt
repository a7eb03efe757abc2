-- What is recorded behind a settling: the minutes that it decides are kept, within a second that has power (profile).
use Rattle.std.specs.Prelude.{◌≡◌, ℕ, ◌+◌, ◌/◌, ◌<◌, Bool, true, false, None, is_some, List, [], length}
use Rattle.activity_codec.specs.declared.values.Slot.{Slot}
use Rattle.trace_model.specs.declared.Card.{Card}
use Rattle.trace_model.specs.Trace.{TraceSecond}
use Rattle.unit_model.specs.minute_model.declared.Minute.{Minute}
use Rattle.minute_rules.specs.Kept.{Kept}
use Rattle.log_model.specs.Log.{Phase, In}
use Rattle.log_model.specs.Course.{Visit, went}
use Rattle.device_calls.specs.safety_model.Safe.{Devices}
use Rattle.run_crew.specs.Cards.{session_of}
use Rattle.run_outcome.specs.declared.outcome.Outcome.{Outcome}
use Rattle.run_minutes.specs.run_promise.Origin.{Origin}
use Rattle.run_minutes.specs.declared.keeper.Moment.{Moment}
use Rattle.run_minutes.specs.Books.{HaveTime}
use Rattle.run_record.specs.Within.{Beginning, IsLeaving, RecordAtFailure}
use Rattle.run_acts.specs.declared.run.Run.{Run}
use Rattle.run_acts.specs.Stays.{Whose, covers, AreKnown}
use Rattle.run_acts.specs.Closings.{spells_of, notes_within}
use Rattle.run_acts.specs.Recording.{log_of, values_of, RunWithin}

-- a run whose minutes are those behind a settling, before any of what that decides is kept
abbrev pub settled_run : Kept → Run → Run
settled_run minutes run = record run { minutes = minutes }

-- BEHIND A SETTLING the second goes on as it began, and all minutes before its own are kept. A card that was leaving
-- its slot, in the minutes from `low` on before `high`, leaves it still, if it has its session. Where stays are known
-- behind it they were known before, and nothing is noted of their cards; and nothing is found.
pub record IsSettledIn (o : Origin) (done : List TraceSecond) (s : TraceSecond) (at : Phase) (waits : List Visit)
    (b : Beginning) (low high : ℕ) (old new : Run) (before after : Outcome) (d e : Devices) : Type 0 where
  pub goes : RunWithin o done s at waits [] new after e
  pub began : goes.within.b ≡ b
  pub from : goes.within.from ≡ s.number / 60
  pub known : (whose : Whose) → AreKnown whose o (log_of after) e → AreKnown whose o (log_of before) d
  pub quiet : (whose : Whose) → AreKnown whose o (log_of after) e → (c : Card) → covers whose c ≡ true
      → spells_of c (notes_within b done s at (log_of after)) ≡ spells_of c (notes_within b done s at (log_of before))
  pub finds : (log_of after).finds ≡ (log_of before).finds
  pub leave : (slot : Slot) (card : Card)
      → IsLeaving (log_of before) (went b.run.log done).before s at low high old.keeper.cabin slot card
      → is_some (session_of new.keeper.cabin.cards card) ≡ true →
      IsLeaving (log_of after) (went b.run.log done).before s at (s.number / 60) (s.number / 60) new.keeper.cabin slot
      card

-- or the unit failed, and power is about to be cut
abbrev pub SettlesTo : (failed : Bool) → Origin → List TraceSecond → TraceSecond → Phase → List Visit → Beginning
    → (low high : ℕ) → (old new : Run) → (before after : Outcome) → (d e : Devices) → Type 0
SettlesTo false o done s at waits b low high old new before after d e = IsSettledIn o done s at waits b low high old new
    before after d e
SettlesTo true o done s at waits b low high old new before after d e = RecordAtFailure o done s at waits None
    (values_of new after) e

-- THE MINUTES THAT A SETTLING DECIDES were to be kept with an action, with these cards waiting to be judged, and so it
-- is recorded behind it.
abbrev pub RecordsSettling : (decided : List Minute) → Moment → (failed : Bool) → (old new : Run)
    → (before after : Outcome) → (d e : Devices) → Type 0
RecordsSettling decided at failed old new before after d e = (o : Origin) (done : List TraceSecond) (s : TraceSecond)
    (n : ℕ) (waits : List Visit) → 0 < n → at ≡ record { second = s.number; begun = n; late = false } →
    (w : RunWithin o done s (In n) waits decided (settled_run new.minutes old) before d) → HaveTime e →
    SettlesTo failed o done s (In n) waits w.within.b w.within.from (w.within.from + length decided) old new before
    after d e
