-- Why a call ends, and its status (profile).
use Rattle.std.specs.Prelude.{ℕ, List, [], Bool, true, false, Result, Ok, Err}
use Rattle.trace_text.specs.declared.lines_trace.TraceFault.{TraceFault}
use Rattle.trace_text.specs.declared.lines_trace.TraceFault.TheVariants as trace
use Rattle.tacho.specs.declared.end.Fault.{Fault}
use Rattle.tacho.specs.declared.end.Fault.TheVariants.{Done, Usage, BadTrace, TooLong, BadUnit, ClockBack, SameCard}
use Rattle.tacho.specs.declared.end.Fault.TheVariants.{ReadFault, WriteFault, MediumFault, Memory, BadFile, BadCard}
use Rattle.tacho.specs.declared.end.Fault.TheVariants.{Changed, FileFault, LinkEnded}
use Rattle.tacho.specs.declared.end.Ended.{Ended}
use Rattle.run_outcome.specs.declared.outcome.Outcome.{Outcome}
use Rattle.unit_download.specs.declared.wire.Passed.{Passed}

-- the status with which the program ends by a fault: 0 where all was done
abbrev pub status_of : Fault → ℕ
status_of Done = 0
status_of Usage = 2
status_of (BadTrace n) = 3
status_of (TooLong n) = 3
status_of (BadUnit place) = 4
status_of (ClockBack kept second) = 5
status_of (SameCard number) = 6
status_of ReadFault = 7
status_of WriteFault = 8
status_of (MediumFault device) = 9
status_of Memory = 10
status_of (BadFile place) = 11
status_of (BadCard field) = 12
status_of Changed = 13
status_of FileFault = 8
status_of LinkEnded = 14

-- the end by a fault, with an outcome and the frames that passed
abbrev pub ended_with : Outcome → List Passed → Fault → Ended
ended_with outcome wire fault = record { status = status_of fault; fault = fault; outcome = outcome; wire = wire }

-- the same where no frame passed
abbrev pub ended_by : Outcome → Fault → Ended
ended_by outcome fault = ended_with outcome [] fault

-- the end where no trace was read
abbrev pub refusal_of : TraceFault → Fault
refusal_of trace.ReadFault = ReadFault
refusal_of (trace.BadLine n) = BadTrace n
refusal_of (trace.TooLong n) = TooLong n
refusal_of trace.Memory = Memory

-- the source failed, or memory ran out
abbrev pub IsUnread : Fault → Type 0
IsUnread ReadFault = Unit {0}
IsUnread Memory = Unit {0}
IsUnread _ = ⊥

-- the source or the sink failed, or memory ran out
abbrev pub IsUnprinted : Fault → Type 0
IsUnprinted ReadFault = Unit {0}
IsUnprinted WriteFault = Unit {0}
IsUnprinted Memory = Unit {0}
IsUnprinted _ = ⊥

-- no trace was read, or memory ran out: no device was used
abbrev pub IsBeforeDevices : Fault → Type 0
IsBeforeDevices Usage = Unit {0}
IsBeforeDevices (BadTrace n) = Unit {0}
IsBeforeDevices (TooLong n) = Unit {0}
IsBeforeDevices (BadFile place) = Unit {0}
IsBeforeDevices ReadFault = Unit {0}
IsBeforeDevices Memory = Unit {0}
IsBeforeDevices _ = ⊥

-- a device failed
abbrev pub is_medium_fault : Fault → Bool
is_medium_fault (MediumFault device) = true
is_medium_fault _ = false

-- why a command ends, by what it answers
abbrev pub end_of : {T : Type 0} → Result T Fault → Fault
end_of (Ok done) = Done
end_of (Err fault) = fault
