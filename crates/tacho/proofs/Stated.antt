-- How `state` ends, by what its calls answered.
use Rattle.std.proofs.Common.{◌≤◌, refl, subst, ℕ, List, Some}
use Rattle.std.specs.Prelude.{Result}
use Rattle.run_outcome.specs.declared.outcome.Outcome.{Outcome}
use Rattle.state_text.specs.declared.line.Line.{Line}
use Rattle.state_text.specs.Text.{AreLinesText}
use Rattle.device_state.specs.declared.devices.DevicesTold.{DevicesTold}
use Rattle.device_state.specs.Lines.{state_lines}
use Rattle.tacho.specs.declared.end.Fault.{Fault}
use Rattle.tacho.specs.declared.end.Fault.TheVariants.{Done, WriteFault, Memory}
use Rattle.tacho.specs.declared.forms.Form.TheVariants.{State}
use Rattle.tacho.specs.End.{end_of, ended_by}
use Rattle.tacho.specs.Help.{IsTextEnd, EndsText}
use Rattle.tacho.specs.Outside.{Outside, SinkTold}
use Rattle.tacho.specs.Outcomes.{IsEmpty}
use Rattle.tacho.specs.Program.{Ends}
use Rattle.tacho.specs.State.{IsStateEnd, PrintsState, AreTold}
use Rattle.tacho.proofs.Demo.{keeps-same}

-- a text was printed, or a front of it
state-end : (fault : Fault) → IsTextEnd fault → IsStateEnd fault
state-end Done ends = tt
state-end WriteFault ends = tt
state-end _ ends = absurd ends

pub text-printed : (lines : List Line) (out : List ℕ) (before after : SinkTold) (fault : Fault) → AreLinesText lines out → EndsText out before after fault → PrintsState lines before after fault
text-printed lines out before after fault text printed = record {
  ends = state-end fault printed.ends;
  printed = λ is. (out, text, printed.printed is);
  front = λ is. (out, text, printed.front is);
  nothing = λ is. absurd (subst IsTextEnd is printed.ends);
  write_fault = printed.write_fault;
}

-- memory ran out before
pub none-printed : (lines : List Line) (sink : SinkTold) → PrintsState lines sink sink Memory
none-printed lines sink = record {
  ends = tt;
  printed = λ is. absurd (cc);
  front = λ is. absurd (cc);
  nothing = λ is. keeps-same sink.held;
  write_fault = λ is. absurd (cc);
}

-- so the call ends that was asked for it
pub state-ends : {T : Type 0} (told : DevicesTold) (old new : Outside) (outcome : Outcome) (r : Result T Fault) → AreTold told old new → PrintsState (state_lines told) old.sink new.sink (end_of r) → IsEmpty outcome
    → old.source.faults ≤ new.source.faults → old.sink.faults ≤ new.sink.faults
    → Ends (Some State) old new (ended_by outcome (end_of r))
state-ends told old new outcome r are_told prints none reads writes = record {
  status = refl;
  usage = (λ is. absurd (subst IsStateEnd is prints.ends), λ no. absurd (cc));
  form = record { told = told; are_told = are_told; prints = prints };
  unrecorded = none;
  unpassed = refl;
  causes = record {
    read_fault = λ is. absurd (subst IsStateEnd is prints.ends);
    write_fault = prints.write_fault;
    medium_fault = λ device is. absurd (subst IsStateEnd is prints.ends);
    reads = reads;
    writes = writes;
  };
}
