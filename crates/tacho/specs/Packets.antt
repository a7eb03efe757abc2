-- What the commands `serve packets` and `download packets` do: a unit's end and a loader's end of a link of packets.
use Rattle.std.specs.Prelude.{◌≡◌, ℕ, List, Option, Some, IfSome, Result, Ok, Err}
use Rattle.std.specs.Io.KnownBytes.{IsAtEnd}
use Rattle.unit_model.specs.Decoding.{first_bad_place}
use Rattle.unit_minutes.specs.Reading.{ReadsIfAny}
use Rattle.link_session.specs.declared.fault.ServeFault.{ServeFault}
use Rattle.packet_service.specs.declared.loading.PacketsFault.{PacketsFault}
use Rattle.packet_service.specs.declared.loading.PacketsFault.TheVariants as packets
use Rattle.packet_service.specs.Serving.{ArePacketsServed}
use Rattle.packet_service.specs.Loading.{Sinks, ArePacketsLoaded}
use Rattle.tacho.specs.declared.forms.Form.{Form}
use Rattle.tacho.specs.declared.forms.Form.TheVariants.{DownloadPackets}
use Rattle.tacho.specs.declared.end.Fault.{Fault}
use Rattle.tacho.specs.declared.end.Fault.TheVariants.{Done, TooLong, BadUnit, ReadFault, WriteFault, Memory, Changed}
use Rattle.tacho.specs.declared.end.Fault.TheVariants.{FileFault, LinkEnded}
use Rattle.tacho.specs.End.{is_medium_fault}
use Rattle.tacho.specs.Outside.{Outside}
use Rattle.tacho.specs.Serving.{end_of_service}

-- HOW `serve packets` ENDS.
pub record EndsServePackets (old new : Outside) (fault : Fault) : Type 0 where
  -- It ends as a service of packets does.
  pub ended : Result (Unit {0}) ServeFault
  pub ends : fault ≡ end_of_service ended
  -- The sink gained the answers to the packets that came, each new one once, in the order of numbers; less where it
  -- failed, or the unit.
  pub served : ArePacketsServed ended old.unit.image old.source.left new.source.left old.sink.held new.sink.held
  -- Done: nothing of the source is left.
  pub read : fault ≡ Done → IsAtEnd new.source.left
  -- A unit is bad at the first place of its image that fails.
  pub bad_unit : (place : ℕ) → fault ≡ BadUnit place → IfSome old.unit.image (λ x. first_bad_place x ≡ Some place)
  -- The unit is read, if at all, and never written.
  pub unit : ReadsIfAny old.unit new.unit (is_medium_fault fault)

-- the end by what a download by packets answers
abbrev pub end_of_packets : Result (Unit {0}) PacketsFault → Fault
end_of_packets (Ok done) = Done
end_of_packets (Err packets.ReadFault) = ReadFault
end_of_packets (Err packets.WriteFault) = WriteFault
end_of_packets (Err packets.FileFault) = FileFault
end_of_packets (Err packets.Changed) = Changed
end_of_packets (Err packets.TooLong) = TooLong 0
end_of_packets (Err packets.Ended) = LinkEnded
end_of_packets (Err packets.Memory) = Memory

-- how `download packets` can end
abbrev pub IsPacketsEnd : Fault → Type 0
IsPacketsEnd Done = Unit {0}
IsPacketsEnd ReadFault = Unit {0}
IsPacketsEnd WriteFault = Unit {0}
IsPacketsEnd FileFault = Unit {0}
IsPacketsEnd Changed = Unit {0}
IsPacketsEnd (TooLong line) = Unit {0}
IsPacketsEnd LinkEnded = Unit {0}
IsPacketsEnd Memory = Unit {0}
IsPacketsEnd _ = ⊥

-- HOW `download packets` ENDS, of what is left of the source, of what link and file hold, and of whether the file
-- failed.
pub record EndsDownloadPackets (left unread : Option (List ℕ)) (held sunk : Sinks) (failed : Type 0)
    (fault : Fault) : Type 0 where
  -- It ends as a download by packets does: the link has the requests, and the file what the answers that were taken put
  -- out.
  pub ended : Result (Unit {0}) PacketsFault
  pub ends : fault ≡ end_of_packets ended
  pub loaded : ArePacketsLoaded ended left unread held sunk
  pub file_fault : fault ≡ FileFault → failed

-- the file is that of a download by packets; no other form writes it
abbrev pub WritesFile : Option Form → (left unread : Option (List ℕ)) → (held sunk : Sinks) → (failed same : Type 0)
    → Fault → Type 0
WritesFile (Some DownloadPackets) left unread held sunk failed same fault = EndsDownloadPackets left unread held sunk
    failed fault
WritesFile asked left unread held sunk failed same fault = same
