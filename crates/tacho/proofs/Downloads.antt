-- How `download` ends, by what the download answers.
use Rattle.std.proofs.Common.{◌≡◌, ◌≤◌, ◌⊎◌, ℕ, Bool, inl, inr, List, Option, None, refl, subst}
use Rattle.std.specs.Prelude.{Result, Ok, Err, Some, IfSome, OnOk, OnErr, IfErr}
use Rattle.std.specs.Io.KnownBytes.{Appends, Keeps}
use Rattle.tach_media.specs.Medium.{State, Rose}
use Rattle.tach_media.specs.Streams.{AppendsFront}
use Rattle.run_model.specs.declared.Device.{Device}
use Rattle.run_model.specs.declared.Device.TheVariants.{Unit as OfUnit}
use Rattle.message_model.specs.Sending.{unit_file}
use Rattle.unit_model.specs.Decoding.{Decodes, first_bad_place}
use Rattle.unit_minutes.specs.Reading.{ReadsIfAny}
use Rattle.unit_download.specs.declared.wire.Passed.{Passed}
use Rattle.unit_download.specs.declared.fault.DownloadFault.{DownloadFault}
use Rattle.unit_download.specs.declared.fault.DownloadFault.TheVariants as download
use Rattle.unit_download.specs.Ending.{IsDownload, IfBad, has_failed, IsDownloaded}
use Rattle.run_outcome.specs.declared.outcome.Outcome.{Outcome}
use Rattle.tacho.specs.declared.end.Fault.TheVariants.{Done, Usage, BadUnit, ReadFault, WriteFault, MediumFault, Memory, Changed}
use Rattle.tacho.specs.declared.forms.Form.TheVariants.{Download, DownloadNoisy}
use Rattle.tacho.specs.End.{ended_with, is_medium_fault}
use Rattle.tacho.specs.Outside.{Outside, SinkTold, memory_of}
use Rattle.tacho.specs.Outcomes.{IsEmpty}
use Rattle.tacho.specs.Downloading.{end_of_download, EndsDownload}
use Rattle.tacho.specs.Program.{Ends, HasCauses}
use Rattle.tacho.proofs.Services.{reads-rose}

-- a download never ends for words in no form, or for the source
not-usage : (r : Result (Unit {0}) DownloadFault) → end_of_download r ≡ Usage → ⊥
not-usage (Ok done) is = cc
not-usage (Err download.Failed) is = cc
not-usage (Err (download.BadUnit place)) is = cc
not-usage (Err download.Changed) is = cc
not-usage (Err download.WriteFault) is = cc
not-usage (Err download.Memory) is = cc

not-read : (r : Result (Unit {0}) DownloadFault) → end_of_download r ≡ ReadFault → ⊥
not-read (Ok done) is = cc
not-read (Err download.Failed) is = cc
not-read (Err (download.BadUnit place)) is = cc
not-read (Err download.Changed) is = cc
not-read (Err download.WriteFault) is = cc
not-read (Err download.Memory) is = cc

-- what holds where all was done, and what holds where not
of-done : {P : Type 0} (r : Result (Unit {0}) DownloadFault) → end_of_download r ≡ Done → OnOk r P → P
of-done (Ok done) is p = p
of-done (Err download.Failed) is p = absurd (cc)
of-done (Err (download.BadUnit place)) is p = absurd (cc)
of-done (Err download.Changed) is p = absurd (cc)
of-done (Err download.WriteFault) is p = absurd (cc)
of-done (Err download.Memory) is p = absurd (cc)

of-not : {P : Type 0} (r : Result (Unit {0}) DownloadFault) → (end_of_download r ≡ Done → ⊥) → OnErr r P → P
of-not (Ok done) undone p = absurd (undone refl)
of-not (Err fault) undone p = p

-- what holds of a fault
of-bad : (P : ℕ → Type 0) (r : Result (Unit {0}) DownloadFault) (place : ℕ) → end_of_download r ≡ BadUnit place → IfErr r (λ fault. IfBad fault P) → P place
of-bad P (Err (download.BadUnit found)) place is p = let same : found ≡ place = cc in subst P same p
of-bad P (Ok done) place is p = absurd (cc)
of-bad P (Err download.Failed) place is p = absurd (cc)
of-bad P (Err download.Changed) place is p = absurd (cc)
of-bad P (Err download.WriteFault) place is p = absurd (cc)
of-bad P (Err download.Memory) place is p = absurd (cc)

of-changed : (r : Result (Unit {0}) DownloadFault) → end_of_download r ≡ Changed → r ≡ Err download.Changed
of-changed (Err download.Changed) is = refl
of-changed (Ok done) is = absurd (cc)
of-changed (Err download.Failed) is = absurd (cc)
of-changed (Err (download.BadUnit place)) is = absurd (cc)
of-changed (Err download.WriteFault) is = absurd (cc)
of-changed (Err download.Memory) is = absurd (cc)

of-write : (r : Result (Unit {0}) DownloadFault) → end_of_download r ≡ WriteFault → r ≡ Err download.WriteFault
of-write (Err download.WriteFault) is = refl
of-write (Ok done) is = absurd (cc)
of-write (Err download.Failed) is = absurd (cc)
of-write (Err (download.BadUnit place)) is = absurd (cc)
of-write (Err download.Changed) is = absurd (cc)
of-write (Err download.Memory) is = absurd (cc)

-- the unit failed where the call ends so
failed-is : (r : Result (Unit {0}) DownloadFault) → has_failed r ≡ is_medium_fault (end_of_download r)
failed-is (Ok done) = refl
failed-is (Err download.Failed) = refl
failed-is (Err (download.BadUnit place)) = refl
failed-is (Err download.Changed) = refl
failed-is (Err download.WriteFault) = refl
failed-is (Err download.Memory) = refl

of-unit : (old new : Outside) (r : Result (Unit {0}) DownloadFault) (device : Device) → end_of_download r ≡ MediumFault device → ReadsIfAny old.unit new.unit (has_failed r)
    → Rose (memory_of device old).faults (memory_of device new).faults
of-unit old new (Err download.Failed) device is reads =
    let same : OfUnit ≡ device = cc in
    subst (λ (d : Device). Rose (memory_of d old).faults (memory_of d new).faults) same (reads-rose reads)
of-unit old new (Ok done) device is reads = absurd (cc)
of-unit old new (Err (download.BadUnit place)) device is reads = absurd (cc)
of-unit old new (Err download.Changed) device is reads = absurd (cc)
of-unit old new (Err download.WriteFault) device is reads = absurd (cc)
of-unit old new (Err download.Memory) device is reads = absurd (cc)

-- where nothing failed
finished : (old new : State) (before after : SinkTold) (r : Result (Unit {0}) DownloadFault) → (r ≡ Err download.Changed → IfSome old.image (λ x. ⊥)) → (r ≡ Err download.WriteFault → Rose before.faults after.faults) → ReadsIfAny old new (has_failed r)
    → (Rose old.faults new.faults → ⊥) → (Rose before.faults after.faults → ⊥)
    → IfSome old.image (λ x. (end_of_download r ≡ Done) ⊎ ((end_of_download r ≡ Memory) ⊎ ((place : ℕ) × (end_of_download r ≡ BadUnit place))))
finished old new before after r changed write reads no_unit no_sink = by old.image r changed write reads
  where
    by : (o : Option (List ℕ)) (r : Result (Unit {0}) DownloadFault) → (r ≡ Err download.Changed → IfSome o (λ x. ⊥)) → (r ≡ Err download.WriteFault → Rose before.faults after.faults) → ReadsIfAny old new (has_failed r)
        → IfSome o (λ x. (end_of_download r ≡ Done) ⊎ ((end_of_download r ≡ Memory) ⊎ ((place : ℕ) × (end_of_download r ≡ BadUnit place))))
    by None r changed write reads = tt
    by (Some x) (Ok done) changed write reads = inl refl
    by (Some x) (Err download.Failed) changed write reads = absurd (no_unit (reads-rose reads))
    by (Some x) (Err (download.BadUnit place)) changed write reads = inr (inr (place, refl))
    by (Some x) (Err download.Changed) changed write reads = absurd (changed refl)
    by (Some x) (Err download.WriteFault) changed write reads = absurd (no_sink (write refl))
    by (Some x) (Err download.Memory) changed write reads = inr (inl refl)

-- so it ends, and by these causes
download-form : (old new : Outside) (wire : List Passed) (r : Result (Unit {0}) DownloadFault)
    → IsDownload r old.unit.image wire old.sink.held new.sink.held
    → OnOk r (IfSome old.unit.image (λ x. Decodes x × Appends old.sink.held new.sink.held (unit_file x)))
    → OnErr r (IfSome old.unit.image (λ x. AppendsFront old.sink.held new.sink.held (unit_file x)))
    → (r ≡ Err download.Changed → IfSome old.unit.image (λ x. ⊥))
    → IfErr r (λ fault. IfBad fault (λ p. IfSome old.unit.image (λ x. first_bad_place x ≡ Some p)))
    → IfErr r (λ fault. IfBad fault (λ p. Keeps old.sink.held new.sink.held))
    → (r ≡ Err download.WriteFault → Rose old.sink.faults new.sink.faults)
    → ReadsIfAny old.unit new.unit (has_failed r)
    → EndsDownload old new wire (end_of_download r)
download-form old new wire r downloaded file front changed bad nothing write reads = record {
  ended = r;
  ends = refl;
  downloaded = downloaded;
  file = λ is. of-done r is file;
  front = λ undone. of-not r undone front;
  bad_unit = λ place is. of-bad (λ p. IfSome old.unit.image (λ x. first_bad_place x ≡ Some p)) r place is bad;
  nothing = λ place is. of-bad (λ p. Keeps old.sink.held new.sink.held) r place is nothing;
  changed = λ is. changed (of-changed r is);
  finishes = λ no_unit no_sink. finished old.unit new.unit old.sink new.sink r changed write reads no_unit no_sink;
  unit = subst (λ (failed : Bool). ReadsIfAny old.unit new.unit failed) (failed-is r) reads;
}

download-causes : (old new : Outside) (r : Result (Unit {0}) DownloadFault)
    → (r ≡ Err download.WriteFault → Rose old.sink.faults new.sink.faults)
    → old.source.faults ≤ new.source.faults → old.sink.faults ≤ new.sink.faults
    → ReadsIfAny old.unit new.unit (has_failed r)
    → HasCauses old new (end_of_download r)
download-causes old new r write reads_count writes_count reads = record {
  read_fault = λ is. absurd (not-read r is);
  write_fault = λ is. write (of-write r is);
  medium_fault = λ device is. of-unit old new r device is reads;
  reads = reads_count;
  writes = writes_count;
}

-- so the call ends that was asked for it
pub download-ends : (old new : Outside) (wire : List Passed) (r : Result (Unit {0}) DownloadFault)
    → IsDownloaded r old.unit.image wire old.sink.held new.sink.held
    → (r ≡ Err download.WriteFault → Rose old.sink.faults new.sink.faults)
    → old.source.faults ≤ new.source.faults → old.sink.faults ≤ new.sink.faults
    → ReadsIfAny old.unit new.unit (has_failed r)
    → (outcome : Outcome) → IsEmpty outcome
    → Ends (Some Download) old new (ended_with outcome wire (end_of_download r))
download-ends old new wire r d write reads_count writes_count reads outcome none = record {
  status = refl;
  usage = (λ is. absurd (not-usage r is), λ no_form. absurd (cc));
  form = download-form old new wire r d.downloaded d.file d.front d.changed d.bad d.nothing write reads;
  unrecorded = none;
  unpassed = tt;
  causes = download-causes old new r write reads_count writes_count reads;
}

-- and over a noisy link
pub download-noisy-ends : (seed : ℕ) (old new : Outside) (wire : List Passed) (r : Result (Unit {0}) DownloadFault)
    → IsDownloaded r old.unit.image wire old.sink.held new.sink.held
    → (r ≡ Err download.WriteFault → Rose old.sink.faults new.sink.faults)
    → old.source.faults ≤ new.source.faults → old.sink.faults ≤ new.sink.faults
    → ReadsIfAny old.unit new.unit (has_failed r)
    → (outcome : Outcome) → IsEmpty outcome
    → Ends (Some (DownloadNoisy seed)) old new (ended_with outcome wire (end_of_download r))
download-noisy-ends seed old new wire r d write reads_count writes_count reads outcome none = record {
  status = refl;
  usage = (λ is. absurd (not-usage r is), λ no_form. absurd (cc));
  form = download-form old new wire r d.downloaded d.file d.front d.changed d.bad d.nothing write reads;
  unrecorded = none;
  unpassed = tt;
  causes = download-causes old new r write reads_count writes_count reads;
}
