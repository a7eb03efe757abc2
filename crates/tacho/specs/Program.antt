-- THE PROGRAM: how its one call ends, and what it leaves untouched (profile). What each form promises stands in the
-- form's own file: Minutes, Recorded, Serving, ServingCard, Downloading, Packets, Read, CardFile, Formatting,
-- Upgrading, State, Demo, Help.
use Rattle.std.specs.Prelude.{◌≡◌, ◌↔◌, ◌≤◌, List, [], Option, Some, None, IfSome}
use Rattle.tach_media.specs.Medium.{State, Rose}
use Rattle.trace_model.specs.declared.Card.TheVariants.{A, B}
use Rattle.run_model.specs.declared.Device.{Device}
use Rattle.run_model.specs.declared.Device.TheVariants.{CardA, CardB}
use Rattle.unit_model.specs.Image.{IsUnit}
use Rattle.tacho.specs.declared.end.Fault.{Fault}
use Rattle.tacho.specs.declared.end.Fault.TheVariants.{Done, Usage, ReadFault, WriteFault, MediumFault, BadCard}
use Rattle.tacho.specs.declared.end.Fault.TheVariants.{TooLong, BadFile}
use Rattle.tacho.specs.declared.end.Ended.{Ended}
use Rattle.run_outcome.specs.declared.outcome.Outcome.{Outcome}
use Rattle.unit_download.specs.declared.wire.Passed.{Passed}
use Rattle.tacho.specs.declared.forms.Form.{Form}
use Rattle.tacho.specs.declared.forms.Form.TheVariants.{Minutes, Record, FormatCard, FormatUnit, Upgrade}
use Rattle.tacho.specs.declared.forms.Form.TheVariants.{State as AskState, Serve, ServeHex, ServePackets, Download}
use Rattle.tacho.specs.declared.forms.Form.TheVariants.{DownloadNoisy, DownloadPackets, Read, CardFile, Demo, Help}
use Rattle.tacho.specs.declared.forms.Form.TheVariants.{ServeCard, Version}
use Rattle.tacho.specs.declared.forms.Reading.TheVariants.{Show}
use Rattle.tacho.specs.End.{status_of, IsBeforeDevices}
use Rattle.tacho.specs.Outside.{Outside, Handed, Tells, told_by, memory_of}
use Rattle.tacho.specs.Minutes.{EndsMinutes}
use Rattle.tacho.specs.Outcomes.{IsEmpty, IsToldForUnit}
use Rattle.tacho.specs.Recorded.{EndsRecord}
use Rattle.tacho.specs.Serving.{EndsServe, EndsServeHex}
use Rattle.tacho.specs.ServingCard.{EndsServeCard}
use Rattle.tacho.specs.Downloading.{EndsDownload}
use Rattle.tacho.specs.Packets.{EndsServePackets, IsPacketsEnd}
use Rattle.tacho.specs.Read.{Prints, IsBad, EndsReading}
use Rattle.tacho.specs.Formatting.{IsCard, EndsIssue, EndsMaking}
use Rattle.tacho.specs.Upgrading.{EndsUpgrade}
use Rattle.tacho.specs.State.{EndsState}
use Rattle.tacho.specs.CardFile.{EndsCard}
use Rattle.tacho.specs.Demo.{EndsDemo}
use Rattle.tacho.specs.Help.{help_text, version_text, EndsText}

-- the devices have the sizes of a unit and of cards
pub record AreDevices (unit card_a card_b : State) : Type 0 where
  pub of_unit : IsUnit unit
  pub of_card_a : IsCard card_a
  pub of_card_b : IsCard card_b

-- what each form does, by its own record
abbrev pub EndsForm : Form → (old new : Outside) → Ended → Type 0
EndsForm (Minutes rule) old new ended = EndsMinutes rule old new ended.fault
EndsForm Record old new ended = EndsRecord old new ended.outcome ended.fault
EndsForm (FormatCard A identity) old new ended = EndsIssue CardA identity old.card_a new.card_a old.sink new.sink
    ended.fault
EndsForm (FormatCard B identity) old new ended = EndsIssue CardB identity old.card_b new.card_b old.sink new.sink
    ended.fault
EndsForm (FormatUnit identity) old new ended = EndsMaking identity old.unit new.unit old.sink new.sink ended.fault
EndsForm Upgrade old new ended = EndsUpgrade old.unit new.unit old.sink new.sink ended.fault
EndsForm AskState old new ended = EndsState old new ended.fault
EndsForm Serve old new ended = EndsServe old new ended.fault
EndsForm ServeHex old new ended = EndsServeHex old new ended.fault
EndsForm ServePackets old new ended = EndsServePackets old new ended.fault
EndsForm (ServeCard A) old new ended = EndsServeCard CardA old.card_a new.card_a old new ended.fault
EndsForm (ServeCard B) old new ended = EndsServeCard CardB old.card_b new.card_b old new ended.fault
EndsForm Download old new ended = EndsDownload old new ended.wire ended.fault
EndsForm (DownloadNoisy seed) old new ended = EndsDownload old new ended.wire ended.fault
EndsForm DownloadPackets old new ended = IsPacketsEnd ended.fault
EndsForm (Read reading) old new ended = EndsReading (Prints reading) (IsBad reading) old new ended.fault
EndsForm (CardFile A) old new ended = EndsCard CardA old.card_a new.card_a old.sink new.sink ended.fault
EndsForm (CardFile B) old new ended = EndsCard CardB old.card_b new.card_b old.sink new.sink ended.fault
EndsForm (Demo seed) old new ended = EndsDemo seed old new ended.outcome ended.fault
EndsForm Help old new ended = EndsText help_text old.sink new.sink ended.fault
EndsForm Version old new ended = EndsText version_text old.sink new.sink ended.fault

-- but for `record` and `demo` there is no outcome
abbrev pub IsUnrecorded : Option Form → Outcome → Type 0
IsUnrecorded (Some Record) outcome = Unit {0}
IsUnrecorded (Some (Demo seed)) outcome = Unit {0}
IsUnrecorded asked outcome = IsEmpty outcome

-- but for `download`, also `download noisy`, no frame passed
abbrev pub IsUnpassed : Option Form → List Passed → Type 0
IsUnpassed (Some Download) wire = Unit {0}
IsUnpassed (Some (DownloadNoisy seed)) wire = Unit {0}
IsUnpassed asked wire = wire ≡ []

-- What a form leaves as it was: all but the sink and what it names. Each argument says that one of them is as it was.
abbrev pub LeavesOthers : Option Form → (source unit card_a card_b : Type 0) → Type 0
LeavesOthers None source unit card_a card_b = source × unit × card_a × card_b
LeavesOthers (Some (Minutes rule)) source unit card_a card_b = unit × card_a × card_b
LeavesOthers (Some Record) source unit card_a card_b = Unit {0}
LeavesOthers (Some (FormatCard A identity)) source unit card_a card_b = source × unit × card_b
LeavesOthers (Some (FormatCard B identity)) source unit card_a card_b = source × unit × card_a
LeavesOthers (Some (FormatUnit identity)) source unit card_a card_b = source × card_a × card_b
LeavesOthers (Some Upgrade) source unit card_a card_b = source × card_a × card_b
LeavesOthers (Some AskState) source unit card_a card_b = source
LeavesOthers (Some Serve) source unit card_a card_b = card_a × card_b
LeavesOthers (Some ServeHex) source unit card_a card_b = card_a × card_b
LeavesOthers (Some ServePackets) source unit card_a card_b = card_a × card_b
LeavesOthers (Some (ServeCard A)) source unit card_a card_b = unit × card_b
LeavesOthers (Some (ServeCard B)) source unit card_a card_b = unit × card_a
LeavesOthers (Some Download) source unit card_a card_b = source × card_a × card_b
LeavesOthers (Some (DownloadNoisy seed)) source unit card_a card_b = source × card_a × card_b
LeavesOthers (Some DownloadPackets) source unit card_a card_b = unit × card_a × card_b
LeavesOthers (Some (Read reading)) source unit card_a card_b = unit × card_a × card_b
LeavesOthers (Some (CardFile A)) source unit card_a card_b = source × unit × card_b
LeavesOthers (Some (CardFile B)) source unit card_a card_b = source × unit × card_a
LeavesOthers (Some (Demo seed)) source unit card_a card_b = source
LeavesOthers (Some Help) source unit card_a card_b = source × unit × card_a × card_b
LeavesOthers (Some Version) source unit card_a card_b = source × unit × card_a × card_b

-- a stream or a device that is told to have failed has failed, and no count of a stream falls
pub record HasCauses (old new : Outside) (fault : Fault) : Type 0 where
  pub read_fault : fault ≡ ReadFault → Rose old.source.faults new.source.faults
  pub write_fault : fault ≡ WriteFault → Rose old.sink.faults new.sink.faults
  pub medium_fault : (device : Device) → fault ≡ MediumFault device
      → Rose (memory_of device old).faults (memory_of device new).faults
  pub reads : old.source.faults ≤ new.source.faults
  pub writes : old.sink.faults ≤ new.sink.faults

-- HOW THE CALL ENDS, whose words ask for this form, or are in none.
pub record Ends (asked : Option Form) (old new : Outside) (ended : Ended) : Type 0 where
  pub status : ended.status ≡ status_of ended.fault
  -- Usage comes exactly where the words are in no form.
  pub usage : (ended.fault ≡ Usage) ↔ (asked ≡ None)
  pub form : IfSome asked (λ form. EndsForm form old new ended)
  pub unrecorded : IsUnrecorded asked ended.outcome
  pub unpassed : IsUnpassed asked ended.wire
  pub causes : HasCauses old new ended.fault

-- what reads all of its source before it uses a device or prints, if it reads any, and makes all that it prints before
-- it prints: each form but `serve`, `serve --hex`, `download`, `download noisy`, `serve packets`, `download packets`,
-- `serve card a` and `serve card b`, `card a` and `card b`, which write as they read, `show`, which writes as it makes,
-- and `state` and `demo`, which read none
abbrev pub ReadsFirst : Option Form → Type 0
ReadsFirst (Some AskState) = ⊥
ReadsFirst (Some Serve) = ⊥
ReadsFirst (Some ServeHex) = ⊥
ReadsFirst (Some ServePackets) = ⊥
ReadsFirst (Some (ServeCard card)) = ⊥
ReadsFirst (Some Download) = ⊥
ReadsFirst (Some (DownloadNoisy seed)) = ⊥
ReadsFirst (Some DownloadPackets) = ⊥
ReadsFirst (Some (Read (Show last))) = ⊥
ReadsFirst (Some (CardFile card)) = ⊥
ReadsFirst (Some (Demo seed)) = ⊥
ReadsFirst asked = Unit {0}

-- `card a` or `card b` ends with the number of a field, or `show` before its file was judged to be one
abbrev pub EndsBefore : Option Form → Fault → Type 0
EndsBefore (Some (CardFile card)) (BadCard field) = Unit {0}
EndsBefore (Some (Read (Show last))) ReadFault = Unit {0}
EndsBefore (Some (Read (Show last))) (TooLong n) = Unit {0}
EndsBefore (Some (Read (Show last))) (BadFile place) = Unit {0}
EndsBefore asked fault = ⊥

-- WHAT IT LEAVES UNTOUCHED. Each argument says that one of what it is handed is as it was.
pub record Spares (asked : Option Form) (fault : Fault) (for_unit source sink unit card_a card_b : Type 0) : Type
    0 where
  pub others : LeavesOthers asked source unit card_a card_b
  -- `record` leaves the cards as they were where the source told a trace of the unit alone, which the first argument
  -- says.
  pub cards : asked ≡ Some Record → for_unit → card_a × card_b
  -- Where no trace was read the devices are as they were; and memory runs out only before the first call on them.
  pub before : ReadsFirst asked → IsBeforeDevices fault → unit × card_a × card_b
  -- But at Done and at a write fault the sink is as it was.
  pub nothing : ReadsFirst asked → (fault ≡ Done → ⊥) → (fault ≡ WriteFault → ⊥) → sink
  -- Of a card of which a field is named nothing was printed, and of what is no file for `show`.
  pub unprinted : EndsBefore asked fault → sink

-- WHAT THE CALL OF A FORM DOES with what it is handed, by what each kind of that tells: how it ends, and what it leaves
-- untouched.
pub record Does {S K U C : Type 0} (t : Tells S K U C) (asked : Option Form) (old new : Handed S K U C)
    (ended : Ended) : Type 0 where
  pub ends : Ends asked (told_by t old) (told_by t new) ended
  pub spares : Spares asked ended.fault (IsToldForUnit (t.left old.source))
      (new.source ≡ old.source) (new.sink ≡ old.sink) (new.unit ≡ old.unit) (new.card_a ≡ old.card_a)
      (new.card_b ≡ old.card_b)
