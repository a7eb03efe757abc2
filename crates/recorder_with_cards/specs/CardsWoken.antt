-- What the cards show of their events as power comes, over devices that tell their images (profile).
use Rattle.std.specs.Prelude.{◌≡◌, ℕ, Bool, true, false, Result, Ok, Err, List, [], ◌∷◌, ◌++◌}
use Rattle.trace_model.specs.Trace.{TraceSecond}
use Rattle.log_model.specs.Log.{RunLog}
use Rattle.device_calls.specs.run_unit_course.Followed.{UnitPower, MayPower}
use Rattle.device_calls.specs.safety_model.Safe.{Devices}
use Rattle.run_minutes.specs.Books.{HaveTime}
use Rattle.run_opening.specs.declared.fault.RunFault.{RunFault}
use Rattle.run_outcome.specs.declared.outcome.Outcome.{Outcome}
use Rattle.run_minutes.specs.run_promise.Origin.{Origin}
use Rattle.run_acts.specs.run_record.Recorded.{Values, RecordBetweenSeconds}
use Rattle.run_acts.specs.run_record.Powering.{read_values}
use Rattle.run_acts.specs.run_note_record.Evented.{limit_in, Evented}
use Rattle.run_acts.specs.declared.run.Run.{Run}
use Rattle.run_acts.specs.Power.{has_power}
use Rattle.run_acts.specs.Recording.{IsOrigin, log_of, values_of, IsNow}
use Rattle.run_acts.specs.RunRinged.{with_cut}
use Rattle.run_acts.specs.RunCards.{vehicle_in, CardsBehind, CardsIn}
use Rattle.run_acts.specs.run_note_record.Ringed.{notes_in}
use Rattle.run_acts.specs.Truths.{truths_of, marked}
use Rattle.run_acts.specs.Stays.{AllStay}
use Rattle.run_acts.specs.Stood.{LetStand, TellsOn}
use Rattle.recorder_with_cards.specs.Carded.{RunCarded, InSecondCarded}

-- of a second that began by this log: they show what it has brought so far, with the interruption before it; or the
-- unit has failed before any action, and they are as the cut leaves them that is told next
abbrev pub CardsWoken : (failed : Bool) → (began : RunLog) → Origin → List TraceSecond → TraceSecond → Run → RunLog
    → Devices → Type 0
CardsWoken false began o done s run log d = (run.keeper.memory.registration ≡ vehicle_in o)
    × CardsIn o done s began [] log d
CardsWoken true began o done s run log d = (run.keeper.memory.registration ≡ vehicle_in o)
    × CardsBehind o (done ++ s ∷ []) (with_cut log s []) d

-- THE UNIT WAS MENDED, and each card judged, behind seconds whose events the cards show.
abbrev pub CardsResuming : (kept speed : ℕ) → (failed : Bool) → (old new : Run) → (before after : Outcome)
    → (d e : Devices) → Type 0
CardsResuming kept speed failed old new before after d e = (o : Origin) → IsOrigin o
    → (done : List TraceSecond) (s : TraceSecond) (supply : UnitPower) (v : Values)
    → RecordBetweenSeconds o done supply v d
    → AllStay o (marked v.marks (truths_of o v.log done)) 0 v.log (notes_in v.log done) old.keeper.memory.registration
    v.cabin d → MayPower supply v.next →
    s.number ≡ v.next → s.has_power ≡ true → s.speed ≡ speed → values_of old before ≡ read_values kept v
    → Evented o done v.log v.unfound v.next supply d → old.keeper.memory.limit ≡ limit_in o
    → old.keeper.memory.registration ≡ vehicle_in o → CardsBehind o done (log_of before) d →
    HaveTime e → CardsWoken failed (log_of before) o done s new (log_of after) e

-- what stood on them stands, and the log tells the same of the seconds before
abbrev pub StandsResuming : (kept speed : ℕ) → (failed : Bool) → (old new : Run) → (before after : Outcome)
    → (d e : Devices) → Type 0
StandsResuming kept speed failed old new before after d e = (o : Origin) → IsOrigin o
    → (done : List TraceSecond) (s : TraceSecond) (supply : UnitPower) (v : Values)
    → RecordBetweenSeconds o done supply v d
    → AllStay o (marked v.marks (truths_of o v.log done)) 0 v.log (notes_in v.log done) old.keeper.memory.registration
    v.cabin d → MayPower supply v.next →
    s.number ≡ v.next → s.has_power ≡ true → s.speed ≡ speed → values_of old before ≡ read_values kept v
    → Evented o done v.log v.unfound v.next supply d → old.keeper.memory.limit ≡ limit_in o
    → old.keeper.memory.registration ≡ vehicle_in o → HaveTime e
    → LetStand o d e × TellsOn (log_of before) (log_of after) done

-- power is back, or was lost at once: no unit that tells its image is refused
abbrev pub WokenCarded : Result (Unit {0}) RunFault → Origin → List TraceSecond → TraceSecond → Run → Outcome → Devices
    → Type 0
WokenCarded (Ok done_) o done s run out d = InSecondCarded o done s 0 run out d
WokenCarded (Err fault) o done s run out d = ⊥

-- POWER COMES with a second where it may: so they go on.
abbrev pub CardsPowering : Result (Unit {0}) RunFault → (speed : ℕ) → (old new : Run) → (before after : Outcome)
    → (d e : Devices) → Type 0
CardsPowering result speed old new before after d e = (o : Origin) (done : List TraceSecond) (s : TraceSecond)
    → IsNow s speed old → RunCarded o done old before d → has_power old.power old.next ≡ true →
    HaveTime e → WokenCarded result o done s new after e
