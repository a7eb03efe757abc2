-- How `serve --hex` ends, by what the service of lines answers.
use Rattle.std.proofs.Common.{◌≡◌, ◌≤◌, ℕ, Bool, refl, subst}
use Rattle.std.specs.Prelude.{Result, Ok, Err, Some, IfSome, OnOk, IfErr}
use Rattle.std.specs.Io.KnownBytes.{IsAtEnd}
use Rattle.tach_media.specs.Medium.{State, Rose}
use Rattle.run_model.specs.declared.Device.{Device}
use Rattle.message_model.specs.Sending.{content_sent}
use Rattle.unit_model.specs.Decoding.{first_bad_place}
use Rattle.unit_minutes.specs.Reading.{ReadsIfAny}
use Rattle.link_session.specs.declared.fault.ServeFault.{ServeFault}
use Rattle.link_session.specs.declared.fault.ServeFault.TheVariants as service
use Rattle.link_session.specs.declared.fault.LinesFault.{LinesFault}
use Rattle.link_session.specs.declared.fault.LinesFault.TheVariants as lines
use Rattle.link_session.specs.Served.{IsCaused, has_failed}
use Rattle.link_session.specs.ServedLines.{AreServed, AreCaused, have_failed}
use Rattle.run_outcome.specs.declared.outcome.Outcome.{Outcome}
use Rattle.tacho.specs.declared.end.Fault.TheVariants.{Done, Usage, BadUnit, ReadFault, WriteFault, MediumFault}
use Rattle.tacho.specs.declared.forms.Form.TheVariants.{ServeHex}
use Rattle.tacho.specs.End.{ended_by, is_medium_fault}
use Rattle.tacho.specs.Outside.{Outside, memory_of}
use Rattle.tacho.specs.Outcomes.{IsEmpty}
use Rattle.tacho.specs.Serving.{end_of_lines}
use Rattle.tacho.specs.Program.{Ends}
use Rattle.tacho.proofs.Services.{not-usage, of-done, of-read, of-write, of-bad, of-unit, IsBadAt}

-- a service of lines never ends for words in no form
lines-not-usage : (r : Result (Unit {0}) LinesFault) → end_of_lines r ≡ Usage → ⊥
lines-not-usage (Ok done) is = cc
lines-not-usage (Err (lines.Ended fault)) is = not-usage (Err fault) is
lines-not-usage (Err (lines.BadLine number)) is = cc
lines-not-usage (Err lines.Memory) is = cc

-- what holds where all was answered
lines-done : {P : Type 0} (r : Result (Unit {0}) LinesFault) → end_of_lines r ≡ Done → OnOk r P → P
lines-done (Ok done) is p = p
lines-done {P} (Err (lines.Ended fault)) is p = of-done {P = P} (Err fault) is tt
lines-done (Err (lines.BadLine number)) is p = absurd (cc)
lines-done (Err lines.Memory) is p = absurd (cc)

-- a fault's cause, as of a service of bytes
ended-cause : (read wrote : Type 0) (Bad : ℕ → Type 0) (fault : ServeFault) → AreCaused (lines.Ended fault) read wrote Bad → IsCaused fault read wrote Bad
ended-cause read wrote Bad service.ReadFault cause = cause
ended-cause read wrote Bad service.WriteFault cause = cause
ended-cause read wrote Bad service.Failed cause = cause
ended-cause read wrote Bad (service.BadUnit place) cause = cause
ended-cause read wrote Bad service.TooLong cause = cause

abbrev LinesCause : (read wrote : Type 0) (Bad : ℕ → Type 0) → Result (Unit {0}) LinesFault → Type 0
LinesCause read wrote Bad r = IfErr r (λ fault. AreCaused fault read wrote Bad)

lines-read : (read wrote : Type 0) (Bad : ℕ → Type 0) (r : Result (Unit {0}) LinesFault) → end_of_lines r ≡ ReadFault → LinesCause read wrote Bad r → read
lines-read read wrote Bad (Ok done) is cause = absurd (cc)
lines-read read wrote Bad (Err (lines.Ended fault)) is cause = of-read read wrote Bad (Err fault) is (ended-cause read wrote Bad fault cause)
lines-read read wrote Bad (Err (lines.BadLine number)) is cause = absurd (cc)
lines-read read wrote Bad (Err lines.Memory) is cause = absurd (cc)

lines-write : (read wrote : Type 0) (Bad : ℕ → Type 0) (r : Result (Unit {0}) LinesFault) → end_of_lines r ≡ WriteFault → LinesCause read wrote Bad r → wrote
lines-write read wrote Bad (Ok done) is cause = absurd (cc)
lines-write read wrote Bad (Err (lines.Ended fault)) is cause = of-write read wrote Bad (Err fault) is (ended-cause read wrote Bad fault cause)
lines-write read wrote Bad (Err (lines.BadLine number)) is cause = absurd (cc)
lines-write read wrote Bad (Err lines.Memory) is cause = absurd (cc)

lines-bad : (read wrote : Type 0) (Bad : ℕ → Type 0) (r : Result (Unit {0}) LinesFault) (place : ℕ) → end_of_lines r ≡ BadUnit place → LinesCause read wrote Bad r → Bad place
lines-bad read wrote Bad (Ok done) place is cause = absurd (cc)
lines-bad read wrote Bad (Err (lines.Ended fault)) place is cause = of-bad read wrote Bad (Err fault) place is (ended-cause read wrote Bad fault cause)
lines-bad read wrote Bad (Err (lines.BadLine number)) place is cause = absurd (cc)
lines-bad read wrote Bad (Err lines.Memory) place is cause = absurd (cc)

-- the unit failed where the call ends so
lines-failed-is : (r : Result (Unit {0}) LinesFault) → have_failed r ≡ is_medium_fault (end_of_lines r)
lines-failed-is (Ok done) = refl
lines-failed-is (Err (lines.Ended service.ReadFault)) = refl
lines-failed-is (Err (lines.Ended service.WriteFault)) = refl
lines-failed-is (Err (lines.Ended service.Failed)) = refl
lines-failed-is (Err (lines.Ended (service.BadUnit place))) = refl
lines-failed-is (Err (lines.Ended service.TooLong)) = refl
lines-failed-is (Err (lines.BadLine number)) = refl
lines-failed-is (Err lines.Memory) = refl

ended-reads : {old new : State} (fault : ServeFault) → ReadsIfAny old new (have_failed {T = Unit {0}} (Err (lines.Ended fault))) → ReadsIfAny old new (has_failed {T = Unit {0}} (Err fault))
ended-reads service.ReadFault reads = reads
ended-reads service.WriteFault reads = reads
ended-reads service.Failed reads = reads
ended-reads (service.BadUnit place) reads = reads
ended-reads service.TooLong reads = reads

lines-unit : (old new : Outside) (r : Result (Unit {0}) LinesFault) (device : Device) → end_of_lines r ≡ MediumFault device → ReadsIfAny old.unit new.unit (have_failed r)
    → Rose (memory_of device old).faults (memory_of device new).faults
lines-unit old new (Ok done) device is reads = absurd (cc)
lines-unit old new (Err (lines.Ended fault)) device is reads = of-unit old new (Err fault) device is (ended-reads fault reads)
lines-unit old new (Err (lines.BadLine number)) device is reads = absurd (cc)
lines-unit old new (Err lines.Memory) device is reads = absurd (cc)

-- so the call ends that was asked for it
pub serve-hex-ends : (old new : Outside) (r : Result (Unit {0}) LinesFault)
    → IfSome old.unit.image (λ x. AreServed r (content_sent x) old.source.left new.source.left old.sink.held new.sink.held)
    → OnOk r (IsAtEnd new.source.left)
    → IfErr r (λ fault. AreCaused fault (Rose old.source.faults new.source.faults) (Rose old.sink.faults new.sink.faults) (λ p. IfSome old.unit.image (λ x. first_bad_place x ≡ Some p)))
    → ReadsIfAny old.unit new.unit (have_failed r)
    → (old.source.faults ≤ new.source.faults) × (old.sink.faults ≤ new.sink.faults)
    → (outcome : Outcome) → IsEmpty outcome
    → Ends (Some ServeHex) old new (ended_by outcome (end_of_lines r))
serve-hex-ends old new r served end cause reads counts outcome none =
    let source_rose : Type 0 = Rose old.source.faults new.source.faults in
    let sink_rose : Type 0 = Rose old.sink.faults new.sink.faults in
    record {
      status = refl;
      usage = (λ is. absurd (lines-not-usage r is), λ no_form. absurd (cc));
      form = record {
        ended = r;
        ends = refl;
        served = served;
        read = λ is. lines-done r is end;
        bad_unit = λ place is. lines-bad source_rose sink_rose (IsBadAt old) r place is cause;
        unit = subst (λ (failed : Bool). ReadsIfAny old.unit new.unit failed) (lines-failed-is r) reads;
      };
      unrecorded = none;
      unpassed = refl;
      causes = record {
        read_fault = λ is. lines-read source_rose sink_rose (IsBadAt old) r is cause;
        write_fault = λ is. lines-write source_rose sink_rose (IsBadAt old) r is cause;
        medium_fault = λ device is. lines-unit old new r device is reads;
        reads = counts.0;
        writes = counts.1;
      };
    }
