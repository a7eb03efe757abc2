-- What is recorded of a run as power comes, over devices that tell their images (profile): the unit was read, and is
-- mended.
use Rattle.std.specs.Prelude.{◌≡◌, ◌≤◌, ℕ, suc, Bool, true, false, Option, Result, Ok, Err, List, [], ◌∷◌, ◌++◌, length}
use Rattle.trace_model.specs.declared.Card.{Card}
use Rattle.trace_model.specs.Trace.{TraceSecond}
use Rattle.log_model.specs.Log.{RunLog, In}
use Rattle.log_model.specs.Course.{ToldSecond}
use Rattle.device_calls.specs.note_model.Odometer.{SpanFrom}
use Rattle.device_calls.specs.run_unit_course.Lines.{cut_at}
use Rattle.device_calls.specs.run_unit_course.Followed.{UnitPower, Lost, MayPower}
use Rattle.device_calls.specs.safety_model.Safe.{Devices}
use Rattle.run_acts.specs.run_course.Moments.{and_break}
use Rattle.run_minutes.specs.Books.{HaveTime}
use Rattle.run_opening.specs.declared.fault.RunFault.{RunFault}
use Rattle.run_outcome.specs.declared.outcome.Outcome.{Outcome}
use Rattle.run_minutes.specs.run_promise.Origin.{Origin}
use Rattle.run_acts.specs.run_record.Recorded.{Values, RecordBetweenSeconds}
use Rattle.run_acts.specs.run_record.Powering.{read_values}
use Rattle.run_acts.specs.run_note_record.Evented.{limit_in, Evented}
use Rattle.run_acts.specs.run_note_record.Noting.{Acting}
use Rattle.run_acts.specs.declared.run.Run.{Run}
use Rattle.run_acts.specs.Power.{has_power}
use Rattle.run_acts.specs.Recording.{IsOrigin, log_of, values_of, RunRecorded, InSecond, GoesOnOrCut, IsNow}
use Rattle.run_acts.specs.run_note_record.Uses.{vehicle_in}
use Rattle.run_acts.specs.Evented.{WithinEvented, InSecondEvented, RunEvented}
use Rattle.run_acts.specs.RunRinged.{RunRinged, RingsWithin, InSecondRinged, with_cut}
use Rattle.run_acts.specs.run_note_record.Ringed.{Seating, notes_in}
use Rattle.run_acts.specs.run_note_record.RingsSoFar.{RingedBehind}
use Rattle.run_acts.specs.run_note_record.Steps.{nobody}
use Rattle.run_acts.specs.run_rings.Spans.{with_second}
use Rattle.run_acts.specs.run_note_record.Stored.{StoresOn, StoresOff}
use Rattle.run_acts.specs.Truths.{truths_of, marked}
use Rattle.run_acts.specs.Stays.{AllStay}

-- THE UNIT WAS MENDED, in which this last-kept minute was found, and each card judged: the second goes on before its
-- actions; or the unit failed.
abbrev pub ResumesSo : (kept : ℕ) → (failed : Bool) → (old new : Run) → (before after : Outcome) → (d e : Devices)
    → Type 0
ResumesSo kept failed old new before after d e = (o : Origin) → IsOrigin o
    → old.keeper.memory.registration ≡ vehicle_in o
    → (done : List TraceSecond) (s : TraceSecond) (supply : UnitPower) (v : Values)
    → RecordBetweenSeconds o done supply v d
    → AllStay o (marked v.marks (truths_of o v.log done)) 0 v.log (notes_in v.log done) old.keeper.memory.registration
    v.cabin d → MayPower supply v.next →
    s.number ≡ v.next → s.has_power ≡ true → values_of old before ≡ read_values kept v → HaveTime e
    → GoesOnOrCut failed o done s (In 0) [] new after e

-- what is noted of events with that, where the log was this as the second began: they are noted so far, with the
-- interruption before; or the unit has failed before any action, and they are as the cut leaves them that is told next
abbrev pub EventsWoken : (failed : Bool) → (began : RunLog) → Origin → List TraceSecond → TraceSecond → Run → Outcome
    → Devices → Type 0
EventsWoken false began o done s run out d = (w : WithinEvented o done s (In 0) [] [] Acting run out d)
    × (w.within.within.b.run.log ≡ began)
EventsWoken true began o done s run out d = Evented o (done ++ s ∷ []) (and_break (log_of out) (cut_at s.number true 0))
    run.unfound (suc run.next) Lost d × (run.keeper.memory.limit ≡ limit_in o)

-- THE UNIT WAS MENDED, and each card judged, behind seconds whose events were noted.
abbrev pub EventsResuming : (kept speed : ℕ) → (failed : Bool) → (old new : Run) → (before after : Outcome)
    → (d e : Devices) → Type 0
EventsResuming kept speed failed old new before after d e = (o : Origin) → IsOrigin o
    → old.keeper.memory.registration ≡ vehicle_in o
    → (done : List TraceSecond) (s : TraceSecond) (supply : UnitPower) (v : Values)
    → RecordBetweenSeconds o done supply v d
    → AllStay o (marked v.marks (truths_of o v.log done)) 0 v.log (notes_in v.log done) old.keeper.memory.registration
    v.cabin d → MayPower supply v.next →
    s.number ≡ v.next → s.has_power ≡ true → s.speed ≡ speed → values_of old before ≡ read_values kept v
    → Evented o done v.log v.unfound v.next supply d → old.keeper.memory.limit ≡ limit_in o → HaveTime e →
    EventsWoken failed (log_of before) o done s new after e

-- power is back, or was lost at once: no unit that tells its image is refused
abbrev pub WokenTo : Result (Unit {0}) RunFault → Origin → List TraceSecond → TraceSecond → Run → Outcome → Devices
    → Type 0
WokenTo (Ok done_) o done s run out d = InSecond o done s 0 run out d
WokenTo (Err fault) o done s run out d = ⊥

-- POWER COMES with a second where it may: so it is recorded.
abbrev pub WakesSo : Result (Unit {0}) RunFault → (speed : ℕ) → (old new : Run) → (before after : Outcome)
    → (d e : Devices) → Type 0
WakesSo result speed old new before after d e = (o : Origin) (done : List TraceSecond) (s : TraceSecond)
    → IsNow s speed old → RunRecorded o done old before d → has_power old.power old.next ≡ true →
    HaveTime e → WokenTo result o done s new after e

-- and the events with it
abbrev pub WokenEvented : Result (Unit {0}) RunFault → Origin → List TraceSecond → TraceSecond → Run → Outcome → Devices
    → Type 0
WokenEvented (Ok done_) o done s run out d = InSecondEvented o done s 0 run out d
WokenEvented (Err fault) o done s run out d = ⊥

-- so the events go on in the next second of a run, to which power comes
abbrev pub EventsWaking : Result (Unit {0}) RunFault → (speed : ℕ) → (old new : Run) → (before after : Outcome)
    → (d e : Devices) → Type 0
EventsWaking result speed old new before after d e = (o : Origin) (done : List TraceSecond) (s : TraceSecond)
    → IsNow s speed old → RunEvented o done old before d → has_power old.power old.next ≡ true →
    HaveTime e → WokenEvented result o done s new after e

-- ---- and the rings

-- of a second that began by this log: they go on, by these spans and the one that begins; or the unit has failed before
-- any action, and they are as the cut leaves them that is told next
abbrev pub RingsWoken : (failed : Bool) → (began : RunLog) → Origin → List TraceSecond → TraceSecond → List SpanFrom
    → Run → RunLog → Devices → Type 0
RingsWoken false began o done s spans run log d = (t : ToldSecond) × RingsWithin o done s began [] run log spans t d
    × StoresOn o began run.unfound run.keeper.odometer (with_second spans run.keeper.odometer t)
RingsWoken true began o done s spans run log d = (now : List SpanFrom) × (run.noted ≤ length log.finds)
    × RingedBehind o (done ++ s ∷ []) (with_cut log s []) (suc s.number) now nobody d
    × StoresOff o (with_cut log s []) run.unfound now d

-- THE UNIT WAS MENDED, and each card judged, behind seconds whose rings show what they noted.
abbrev pub RingsResuming : (kept : ℕ) → (failed : Bool) → (old new : Run) → (before after : Outcome) → (d e : Devices)
    → Type 0
RingsResuming kept failed old new before after d e = (o : Origin) → IsOrigin o
    → old.keeper.memory.registration ≡ vehicle_in o
    → (done : List TraceSecond) (s : TraceSecond) (supply : UnitPower) (v : Values)
    → RecordBetweenSeconds o done supply v d
    → AllStay o (marked v.marks (truths_of o v.log done)) 0 v.log (notes_in v.log done) old.keeper.memory.registration
    v.cabin d → MayPower supply v.next →
    s.number ≡ v.next → s.has_power ≡ true → values_of old before ≡ read_values kept v
    → (spans : List SpanFrom) (seats : Card → Option Seating)
    → RingedBehind o done (log_of before) s.number spans seats d → old.noted ≤ length (log_of before).finds
    → StoresOff o v.log v.unfound spans d → HaveTime e →
    RingsWoken failed (log_of before) o done s spans new (log_of after) e

-- POWER COMES with a second where it may: so the rings go on.
abbrev pub WokenRinged : Result (Unit {0}) RunFault → Origin → List TraceSecond → TraceSecond → Run → Outcome → Devices
    → Type 0
WokenRinged (Ok done_) o done s run out d = InSecondRinged o done s 0 run out d
WokenRinged (Err fault) o done s run out d = ⊥

-- so the rings go on in the next second of a run, to which power comes
abbrev pub RingsWaking : Result (Unit {0}) RunFault → (speed : ℕ) → (old new : Run) → (before after : Outcome)
    → (d e : Devices) → Type 0
RingsWaking result speed old new before after d e = (o : Origin) (done : List TraceSecond) (s : TraceSecond)
    → IsNow s speed old → RunRinged o done old before d → has_power old.power old.next ≡ true →
    HaveTime e → WokenRinged result o done s new after e
