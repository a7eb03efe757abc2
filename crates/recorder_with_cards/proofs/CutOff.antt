-- Power is lost in a second: so a run is cut.
use Rattle.std.proofs.Common.{◌≡◌, ℕ, suc, true, List, [], ◌∷◌, ◌++◌, length, refl, subst}
use Rattle.trace_model.specs.Trace.{TraceSecond}
use Rattle.log_model.specs.Log.{In}
use Rattle.device_calls.specs.run_unit_course.Followed.{Lost}
use Rattle.device_calls.specs.run_unit_course.Lines.{cut_at}
use Rattle.device_calls.specs.safety_model.Safe.{Devices}
use Rattle.run_acts.specs.run_crew.Cabin.{with_power_lost}
use Rattle.run_acts.specs.run_course.Moments.{and_break}
use Rattle.run_outcome.specs.declared.outcome.Outcome.{Outcome}
use Rattle.run_minutes.specs.run_promise.Origin.{Origin}
use Rattle.run_acts.specs.run_record.Recorded.{RecordBetweenSeconds}
use Rattle.run_acts.specs.run_record.Within.{cut_values}
use Rattle.run_acts.specs.declared.run.Run.{Run}
use Rattle.run_acts.specs.Power.{cut_run}
use Rattle.run_acts.specs.Recording.{IsOrigin, log_of, values_of, RunCut}
use Rattle.run_acts.specs.run_note_record.Uses.{vehicle_in}
use Rattle.recorder_with_cards.specs.Acting.{cut_breaks}
use Rattle.run_acts.proofs.AllStay.{no-cut}

-- what is recorded so once a second has gone is so of a run that was cut in it
pub cut-as : (d : Devices) (o : Origin) (done : List TraceSecond) (s : TraceSecond) (n : ℕ) (run : Run) (out : Outcome) → IsOrigin o → run.keeper.memory.registration ≡ vehicle_in o → s.number ≡ run.next → RecordBetweenSeconds o (done ++ s ∷ []) Lost (cut_values s (In n) (values_of run out)) d →
    RunCut o done s (cut_run run.next run) (cut_breaks true run.next n out) d
cut-as d o done s n run out origin vehicle number cut = record {
  origin = origin;
  vehicle = vehicle;
  lost = refl;
  recorded = subst (λ (m : ℕ). RecordBetweenSeconds o (done ++ s ∷ []) Lost (record (values_of run out) { log = and_break (log_of out) (cut_at m true n); cabin = with_power_lost m run.keeper.cabin; next = suc run.next; begun = length s.actions }) d) number cut;
  failed = λ none. no-cut (log_of out) run.next n none;
}
