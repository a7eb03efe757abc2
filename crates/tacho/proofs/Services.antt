-- How `serve` ends, by what the service of the link answers.
use Rattle.std.proofs.Common.{◌≡◌, ◌≤◌, ℕ, Bool, true, inl, inr, refl, subst}
use Rattle.std.specs.Prelude.{Result, Ok, Err, Some, IfSome, OnOk, IfErr}
use Rattle.std.specs.Io.KnownBytes.{IsAtEnd}
use Rattle.tach_media.specs.Medium.{State, Rose}
use Rattle.run_model.specs.declared.Device.{Device}
use Rattle.run_model.specs.declared.Device.TheVariants.{Unit as OfUnit}
use Rattle.message_model.specs.Sending.{content_sent}
use Rattle.unit_model.specs.Decoding.{first_bad_place}
use Rattle.unit_minutes.specs.Reading.{ReadsIfAny}
use Rattle.link_session.specs.declared.fault.ServeFault.{ServeFault}
use Rattle.link_session.specs.declared.fault.ServeFault.TheVariants as service
use Rattle.link_session.specs.Served.{IsServed, IsCaused, has_failed}
use Rattle.run_outcome.specs.declared.outcome.Outcome.{Outcome}
use Rattle.tacho.specs.declared.end.Fault.TheVariants.{Done, Usage, BadUnit, ReadFault, WriteFault, MediumFault}
use Rattle.tacho.specs.declared.forms.Form.TheVariants.{Serve}
use Rattle.tacho.specs.End.{ended_by, is_medium_fault}
use Rattle.tacho.specs.Outside.{Outside, memory_of}
use Rattle.tacho.specs.Outcomes.{IsEmpty}
use Rattle.tacho.specs.Serving.{end_of_service}
use Rattle.tacho.specs.Program.{Ends}

-- a service never ends for words in no form
pub not-usage : (r : Result (Unit {0}) ServeFault) → end_of_service r ≡ Usage → ⊥
not-usage (Ok done) is = cc
not-usage (Err service.ReadFault) is = cc
not-usage (Err service.WriteFault) is = cc
not-usage (Err service.Failed) is = cc
not-usage (Err (service.BadUnit place)) is = cc
not-usage (Err service.TooLong) is = cc

-- what holds where all was answered
pub of-done : {P : Type 0} (r : Result (Unit {0}) ServeFault) → end_of_service r ≡ Done → OnOk r P → P
of-done (Ok done) is p = p
of-done (Err service.ReadFault) is p = absurd (cc)
of-done (Err service.WriteFault) is p = absurd (cc)
of-done (Err service.Failed) is p = absurd (cc)
of-done (Err (service.BadUnit place)) is p = absurd (cc)
of-done (Err service.TooLong) is p = absurd (cc)

-- a fault's cause
abbrev pub Cause : (read wrote : Type 0) (Bad : ℕ → Type 0) → Result (Unit {0}) ServeFault → Type 0
Cause read wrote Bad r = IfErr r (λ fault. IsCaused fault read wrote Bad)

pub of-read : (read wrote : Type 0) (Bad : ℕ → Type 0) (r : Result (Unit {0}) ServeFault) → end_of_service r ≡ ReadFault → Cause read wrote Bad r → read
of-read read wrote Bad (Err service.ReadFault) is cause = cause
of-read read wrote Bad (Ok done) is cause = absurd (cc)
of-read read wrote Bad (Err service.WriteFault) is cause = absurd (cc)
of-read read wrote Bad (Err service.Failed) is cause = absurd (cc)
of-read read wrote Bad (Err (service.BadUnit place)) is cause = absurd (cc)
of-read read wrote Bad (Err service.TooLong) is cause = absurd (cc)

pub of-write : (read wrote : Type 0) (Bad : ℕ → Type 0) (r : Result (Unit {0}) ServeFault) → end_of_service r ≡ WriteFault → Cause read wrote Bad r → wrote
of-write read wrote Bad (Err service.WriteFault) is cause = cause
of-write read wrote Bad (Ok done) is cause = absurd (cc)
of-write read wrote Bad (Err service.ReadFault) is cause = absurd (cc)
of-write read wrote Bad (Err service.Failed) is cause = absurd (cc)
of-write read wrote Bad (Err (service.BadUnit place)) is cause = absurd (cc)
of-write read wrote Bad (Err service.TooLong) is cause = absurd (cc)

pub of-bad : (read wrote : Type 0) (Bad : ℕ → Type 0) (r : Result (Unit {0}) ServeFault) (place : ℕ) → end_of_service r ≡ BadUnit place → Cause read wrote Bad r → Bad place
of-bad read wrote Bad (Err (service.BadUnit found)) place is cause = let same : found ≡ place = cc in subst Bad same cause
of-bad read wrote Bad (Ok done) place is cause = absurd (cc)
of-bad read wrote Bad (Err service.ReadFault) place is cause = absurd (cc)
of-bad read wrote Bad (Err service.WriteFault) place is cause = absurd (cc)
of-bad read wrote Bad (Err service.Failed) place is cause = absurd (cc)
of-bad read wrote Bad (Err service.TooLong) place is cause = absurd (cc)

-- the unit failed where the call ends so
pub failed-is : (r : Result (Unit {0}) ServeFault) → has_failed r ≡ is_medium_fault (end_of_service r)
failed-is (Ok done) = refl
failed-is (Err service.ReadFault) = refl
failed-is (Err service.WriteFault) = refl
failed-is (Err service.Failed) = refl
failed-is (Err (service.BadUnit place)) = refl
failed-is (Err service.TooLong) = refl

-- reading that failed raised the count
pub reads-rose : {old new : State} → ReadsIfAny old new true → Rose old.faults new.faults
reads-rose (inl none) = absurd (cc)
reads-rose (inr reads) = reads.cause.fault refl

pub of-unit : (old new : Outside) (r : Result (Unit {0}) ServeFault) (device : Device) → end_of_service r ≡ MediumFault device → ReadsIfAny old.unit new.unit (has_failed r)
    → Rose (memory_of device old).faults (memory_of device new).faults
of-unit old new (Err service.Failed) device is reads =
    let same : OfUnit ≡ device = cc in
    subst (λ (d : Device). Rose (memory_of d old).faults (memory_of d new).faults) same (reads-rose reads)
of-unit old new (Ok done) device is reads = absurd (cc)
of-unit old new (Err service.ReadFault) device is reads = absurd (cc)
of-unit old new (Err service.WriteFault) device is reads = absurd (cc)
of-unit old new (Err (service.BadUnit place)) device is reads = absurd (cc)
of-unit old new (Err service.TooLong) device is reads = absurd (cc)

-- the unit is bad at a place
abbrev pub IsBadAt : Outside → ℕ → Type 0
IsBadAt old place = IfSome old.unit.image (λ x. first_bad_place x ≡ Some place)

-- so the call ends that was asked for it
pub serve-ends : (old new : Outside) (r : Result (Unit {0}) ServeFault)
    → IfSome old.unit.image (λ x. IsServed r (content_sent x) old.source.left new.source.left old.sink.held new.sink.held)
    → OnOk r (IsAtEnd new.source.left)
    → IfErr r (λ fault. IsCaused fault (Rose old.source.faults new.source.faults) (Rose old.sink.faults new.sink.faults) (λ p. IfSome old.unit.image (λ x. first_bad_place x ≡ Some p)))
    → ReadsIfAny old.unit new.unit (has_failed r)
    → (old.source.faults ≤ new.source.faults) × (old.sink.faults ≤ new.sink.faults)
    → (outcome : Outcome) → IsEmpty outcome
    → Ends (Some Serve) old new (ended_by outcome (end_of_service r))
serve-ends old new r served end cause reads counts outcome none =
    let source_rose : Type 0 = Rose old.source.faults new.source.faults in
    let sink_rose : Type 0 = Rose old.sink.faults new.sink.faults in
    record {
      status = refl;
      usage = (λ is. absurd (not-usage r is), λ no_form. absurd (cc));
      form = record {
        ended = r;
        ends = refl;
        served = served;
        read = λ is. of-done r is end;
        bad_unit = λ place is. of-bad source_rose sink_rose (IsBadAt old) r place is cause;
        unit = subst (λ (failed : Bool). ReadsIfAny old.unit new.unit failed) (failed-is r) reads;
      };
      unrecorded = none;
      unpassed = refl;
      causes = record {
        read_fault = λ is. of-read source_rose sink_rose (IsBadAt old) r is cause;
        write_fault = λ is. of-write source_rose sink_rose (IsBadAt old) r is cause;
        medium_fault = λ device is. of-unit old new r device is reads;
        reads = counts.0;
        writes = counts.1;
      };
    }
