-- How `serve packets` and `download packets` end, by what the ends of the link answer.
use Rattle.std.proofs.Common.{◌≡◌, ◌≤◌, ℕ, Bool, List, Option, refl, subst}
use Rattle.std.specs.Prelude.{Result, Ok, Err, Some, IfSome, OnOk, IfErr}
use Rattle.std.specs.Io.KnownBytes.{IsAtEnd}
use Rattle.tach_media.specs.Medium.{Rose}
use Rattle.unit_model.specs.Decoding.{first_bad_place}
use Rattle.unit_minutes.specs.Reading.{ReadsIfAny}
use Rattle.link_session.specs.declared.fault.ServeFault.{ServeFault}
use Rattle.link_session.specs.Served.{IsCaused, has_failed}
use Rattle.packet_service.specs.declared.loading.PacketsFault.{PacketsFault}
use Rattle.packet_service.specs.declared.loading.PacketsFault.TheVariants as packets
use Rattle.packet_service.specs.Serving.{ArePacketsServed}
use Rattle.packet_service.specs.Loading.{Sinks, ArePacketsLoaded}
use Rattle.packet_service.specs.Loading as loading
use Rattle.run_model.specs.declared.Device.{Device}
use Rattle.run_outcome.specs.declared.outcome.Outcome.{Outcome}
use Rattle.tacho.specs.declared.end.Fault.TheVariants.{Usage, ReadFault, WriteFault, MediumFault, FileFault}
use Rattle.tacho.specs.declared.forms.Form.TheVariants.{ServePackets, DownloadPackets}
use Rattle.tacho.specs.End.{ended_by}
use Rattle.tacho.specs.Outside.{Outside}
use Rattle.tacho.specs.Outcomes.{IsEmpty}
use Rattle.tacho.specs.Serving.{end_of_service}
use Rattle.tacho.specs.Packets.{end_of_packets, IsPacketsEnd, EndsDownloadPackets}
use Rattle.tacho.specs.Program.{Ends}
use Rattle.tacho.proofs.Services.{not-usage, of-done, of-read, of-write, of-bad, failed-is, of-unit, IsBadAt}

pub serve-packets-ends : (old new : Outside) (r : Result (Unit {0}) ServeFault)
    → ArePacketsServed r old.unit.image old.source.left new.source.left old.sink.held new.sink.held
    → OnOk r (IsAtEnd new.source.left)
    → IfErr r (λ fault. IsCaused fault (Rose old.source.faults new.source.faults) (Rose old.sink.faults new.sink.faults) (λ p. IfSome old.unit.image (λ x. first_bad_place x ≡ Some p)))
    → ReadsIfAny old.unit new.unit (has_failed r)
    → (old.source.faults ≤ new.source.faults) × (old.sink.faults ≤ new.sink.faults)
    → (outcome : Outcome) → IsEmpty outcome
    → Ends (Some ServePackets) old new (ended_by outcome (end_of_service r))
serve-packets-ends old new r served end cause reads counts outcome none =
    let source_rose : Type 0 = Rose old.source.faults new.source.faults in
    let sink_rose : Type 0 = Rose old.sink.faults new.sink.faults in
    record {
      status = refl;
      usage = (λ is. absurd (not-usage r is), λ no_form. absurd (cc));
      form = record {
        ended = r;
        ends = refl;
        served = served;
        read = λ is. of-done r is end;
        bad_unit = λ place is. of-bad source_rose sink_rose (IsBadAt old) r place is cause;
        unit = subst (λ (failed : Bool). ReadsIfAny old.unit new.unit failed) (failed-is r) reads;
      };
      unrecorded = none;
      unpassed = refl;
      causes = record {
        read_fault = λ is. of-read source_rose sink_rose (IsBadAt old) r is cause;
        write_fault = λ is. of-write source_rose sink_rose (IsBadAt old) r is cause;
        medium_fault = λ device is. of-unit old new r device is reads;
        reads = counts.0;
        writes = counts.1;
      };
    }

-- a download by packets ends by no other fault, and by each for its cause
packets-end : (r : Result (Unit {0}) PacketsFault) → IsPacketsEnd (end_of_packets r)
packets-end (Ok done) = tt
packets-end (Err packets.ReadFault) = tt
packets-end (Err packets.WriteFault) = tt
packets-end (Err packets.FileFault) = tt
packets-end (Err packets.Changed) = tt
packets-end (Err packets.TooLong) = tt
packets-end (Err packets.Ended) = tt
packets-end (Err packets.Memory) = tt

no-usage : (r : Result (Unit {0}) PacketsFault) → end_of_packets r ≡ Usage → ⊥
no-usage (Ok done) is = cc
no-usage (Err packets.ReadFault) is = cc
no-usage (Err packets.WriteFault) is = cc
no-usage (Err packets.FileFault) is = cc
no-usage (Err packets.Changed) is = cc
no-usage (Err packets.TooLong) is = cc
no-usage (Err packets.Ended) is = cc
no-usage (Err packets.Memory) is = cc

no-medium : (r : Result (Unit {0}) PacketsFault) (device : Device) → end_of_packets r ≡ MediumFault device → ⊥
no-medium (Ok done) device is = cc
no-medium (Err packets.ReadFault) device is = cc
no-medium (Err packets.WriteFault) device is = cc
no-medium (Err packets.FileFault) device is = cc
no-medium (Err packets.Changed) device is = cc
no-medium (Err packets.TooLong) device is = cc
no-medium (Err packets.Ended) device is = cc
no-medium (Err packets.Memory) device is = cc

-- a fault's cause
abbrev Cause : (read wrote filed : Type 0) → Result (Unit {0}) PacketsFault → Type 0
Cause read wrote filed r = IfErr r (λ fault. loading.IsCaused fault read wrote filed)

was-read : (read wrote filed : Type 0) (r : Result (Unit {0}) PacketsFault) → end_of_packets r ≡ ReadFault → Cause read wrote filed r → read
was-read read wrote filed (Err packets.ReadFault) is cause = cause
was-read read wrote filed (Ok done) is cause = absurd (cc)
was-read read wrote filed (Err packets.WriteFault) is cause = absurd (cc)
was-read read wrote filed (Err packets.FileFault) is cause = absurd (cc)
was-read read wrote filed (Err packets.Changed) is cause = absurd (cc)
was-read read wrote filed (Err packets.TooLong) is cause = absurd (cc)
was-read read wrote filed (Err packets.Ended) is cause = absurd (cc)
was-read read wrote filed (Err packets.Memory) is cause = absurd (cc)

was-written : (read wrote filed : Type 0) (r : Result (Unit {0}) PacketsFault) → end_of_packets r ≡ WriteFault → Cause read wrote filed r → wrote
was-written read wrote filed (Err packets.WriteFault) is cause = cause
was-written read wrote filed (Ok done) is cause = absurd (cc)
was-written read wrote filed (Err packets.ReadFault) is cause = absurd (cc)
was-written read wrote filed (Err packets.FileFault) is cause = absurd (cc)
was-written read wrote filed (Err packets.Changed) is cause = absurd (cc)
was-written read wrote filed (Err packets.TooLong) is cause = absurd (cc)
was-written read wrote filed (Err packets.Ended) is cause = absurd (cc)
was-written read wrote filed (Err packets.Memory) is cause = absurd (cc)

was-filed : (read wrote filed : Type 0) (r : Result (Unit {0}) PacketsFault) → end_of_packets r ≡ FileFault → Cause read wrote filed r → filed
was-filed read wrote filed (Err packets.FileFault) is cause = cause
was-filed read wrote filed (Ok done) is cause = absurd (cc)
was-filed read wrote filed (Err packets.ReadFault) is cause = absurd (cc)
was-filed read wrote filed (Err packets.WriteFault) is cause = absurd (cc)
was-filed read wrote filed (Err packets.Changed) is cause = absurd (cc)
was-filed read wrote filed (Err packets.TooLong) is cause = absurd (cc)
was-filed read wrote filed (Err packets.Ended) is cause = absurd (cc)
was-filed read wrote filed (Err packets.Memory) is cause = absurd (cc)

pub download-packets-ends : (old new : Outside) (r : Result (Unit {0}) PacketsFault) (filed : Type 0) → Cause (Rose old.source.faults new.source.faults) (Rose old.sink.faults new.sink.faults) filed r
    → old.source.faults ≤ new.source.faults → old.sink.faults ≤ new.sink.faults → (outcome : Outcome) → IsEmpty outcome → Ends (Some DownloadPackets) old new (ended_by outcome (end_of_packets r))
download-packets-ends old new r filed cause read wrote outcome none =
    let source_rose : Type 0 = Rose old.source.faults new.source.faults in
    let sink_rose : Type 0 = Rose old.sink.faults new.sink.faults in
    record {
      status = refl;
      usage = (λ is. absurd (no-usage r is), λ no_form. absurd (cc));
      form = packets-end r;
      unrecorded = none;
      unpassed = refl;
      causes = record {
        read_fault = λ is. was-read source_rose sink_rose filed r is cause;
        write_fault = λ is. was-written source_rose sink_rose filed r is cause;
        medium_fault = λ device is. absurd (no-medium r device is);
        reads = read;
        writes = wrote;
      };
    }

pub packets-filed : (r : Result (Unit {0}) PacketsFault) (left unread : Option (List ℕ)) (held sunk : Sinks) (read wrote filed : Type 0) → ArePacketsLoaded r left unread held sunk → Cause read wrote filed r
    → EndsDownloadPackets left unread held sunk filed (end_of_packets r)
packets-filed r left unread held sunk read wrote filed loaded cause = record { ended = r; ends = refl; loaded = loaded; file_fault = λ is. was-filed read wrote filed r is cause }
