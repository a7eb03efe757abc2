-- What the command `download` does: the unit is downloaded, and its file written.
use Rattle.std.specs.Prelude.{◌≡◌, ◌⊎◌, ℕ, List, Some, IfSome, Result, Ok, Err}
use Rattle.std.specs.Io.KnownBytes.{Appends, Keeps}
use Rattle.tach_media.specs.Medium.{Rose}
use Rattle.tach_media.specs.Streams.{AppendsFront}
use Rattle.run_model.specs.declared.Device.TheVariants.{Unit as OfUnit}
use Rattle.message_model.specs.Sending.{unit_file}
use Rattle.unit_model.specs.Decoding.{Decodes, first_bad_place}
use Rattle.unit_minutes.specs.Reading.{ReadsIfAny}
use Rattle.unit_download.specs.declared.wire.Passed.{Passed}
use Rattle.unit_download.specs.declared.fault.DownloadFault.{DownloadFault}
use Rattle.unit_download.specs.declared.fault.DownloadFault.TheVariants as download
use Rattle.unit_download.specs.Ending.{IsDownload}
use Rattle.tacho.specs.declared.end.Fault.{Fault}
use Rattle.tacho.specs.declared.end.Fault.TheVariants.{Done, BadUnit, Changed, WriteFault, MediumFault, Memory}
use Rattle.tacho.specs.End.{is_medium_fault}
use Rattle.tacho.specs.Outside.{Outside}

-- the end by what a download answers
abbrev pub end_of_download : Result (Unit {0}) DownloadFault → Fault
end_of_download (Ok done) = Done
end_of_download (Err download.Failed) = MediumFault OfUnit
end_of_download (Err (download.BadUnit place)) = BadUnit place
end_of_download (Err download.Changed) = Changed
end_of_download (Err download.WriteFault) = WriteFault
end_of_download (Err download.Memory) = Memory

-- HOW `download` ENDS.
pub record EndsDownload (old new : Outside) (wire : List Passed) (fault : Fault) : Type 0 where
  -- It ends as a download does: the wire is a run of the tables of loader and unit, and what the loader put out went to
  -- the sink.
  pub ended : Result (Unit {0}) DownloadFault
  pub ends : fault ≡ end_of_download ended
  pub downloaded : IsDownload ended old.unit.image wire old.sink.held new.sink.held
  -- Done: the image decodes, and the sink gained exactly its file. Else a front of the file.
  pub file : fault ≡ Done → IfSome old.unit.image (λ x. Decodes x × Appends old.sink.held new.sink.held (unit_file x))
  pub front : (fault ≡ Done → ⊥) → IfSome old.unit.image (λ x. AppendsFront old.sink.held new.sink.held (unit_file x))
  -- A unit is bad at the first place of its image that fails, and nothing went to the sink.
  pub bad_unit : (place : ℕ) → fault ≡ BadUnit place → IfSome old.unit.image (λ x. first_bad_place x ≡ Some place)
  pub nothing : (place : ℕ) → fault ≡ BadUnit place → Keeps old.sink.held new.sink.held
  -- No unit that tells its image gives no answer, or one that the loader refuses.
  pub changed : fault ≡ Changed → IfSome old.unit.image (λ x. ⊥)
  -- Where neither the unit nor the sink failed, a unit that tells its image is downloaded, or is bad, or memory ran
  -- out.
  pub finishes : (Rose old.unit.faults new.unit.faults → ⊥) → (Rose old.sink.faults new.sink.faults → ⊥)
      → IfSome old.unit.image (λ x. (fault ≡ Done) ⊎ ((fault ≡ Memory) ⊎ ((place : ℕ) × (fault ≡ BadUnit place))))
  -- The unit is read, if at all, and never written.
  pub unit : ReadsIfAny old.unit new.unit (is_medium_fault fault)
