-- What the command `state` does (profile): the unit and the cards are read, and what they tell of themselves is
-- printed, a line each.
use Rattle.std.specs.Prelude.{◌≡◌, ℕ, List, IfSome}
use Rattle.std.specs.Io.KnownBytes.{Appends, Keeps}
use Rattle.tach_media.specs.Medium.{Reads, Rose}
use Rattle.tach_media.specs.Streams.{AppendsFront}
use Rattle.unit_memory.specs.Fault.{has_failed}
use Rattle.state_text.specs.declared.line.Line.{Line}
use Rattle.state_text.specs.Text.{AreLinesText}
use Rattle.device_state.specs.declared.devices.DevicesTold.{DevicesTold}
use Rattle.device_state.specs.Devices.{cards_seen}
use Rattle.device_state.specs.Units.{TellsUnit}
use Rattle.device_state.specs.Cards.{TellsCard, has_failed as card_failed}
use Rattle.device_state.specs.Lines.{state_lines}
use Rattle.tacho.specs.declared.end.Fault.{Fault}
use Rattle.tacho.specs.declared.end.Fault.TheVariants.{Done, WriteFault, Memory}
use Rattle.tacho.specs.Outside.{Outside, SinkTold}

-- all is done, or the sink failed, or memory ran out. A device that fails is no fault: its line says so.
abbrev pub IsStateEnd : Fault → Type 0
IsStateEnd Done = Unit {0}
IsStateEnd WriteFault = Unit {0}
IsStateEnd Memory = Unit {0}
IsStateEnd _ = ⊥

-- how the printing of these lines ends: at Done exactly their text went to the sink, at a write fault a front of it,
-- and else nothing
pub record PrintsState (lines : List Line) (before after : SinkTold) (fault : Fault) : Type 0 where
  pub ends : IsStateEnd fault
  pub printed : fault ≡ Done → (out : List ℕ) × AreLinesText lines out × Appends before.held after.held out
  pub front : fault ≡ WriteFault → (out : List ℕ) × AreLinesText lines out × AppendsFront before.held after.held out
  pub nothing : fault ≡ Memory → Keeps before.held after.held
  pub write_fault : fault ≡ WriteFault → Rose before.faults after.faults

-- WHAT THE DEVICES TELL is what their images tell; each is read, and never written. Of one that failed nothing is
-- known.
pub record AreTold (told : DevicesTold) (old new : Outside) : Type 0 where
  pub unit : IfSome old.unit.image (TellsUnit (cards_seen told.card_a told.card_b) told.unit)
  pub card_a : IfSome old.card_a.memory.image (TellsCard told.card_a)
  pub card_b : IfSome old.card_b.memory.image (TellsCard told.card_b)
  pub reads_unit : Reads old.unit new.unit (has_failed told.unit)
  pub reads_a : Reads old.card_a.memory new.card_a.memory (card_failed told.card_a)
  pub reads_b : Reads old.card_b.memory new.card_b.memory (card_failed told.card_b)

-- HOW `state` ENDS.
pub record EndsState (old new : Outside) (fault : Fault) : Type 0 where
  pub told : DevicesTold
  pub are_told : AreTold told old new
  pub prints : PrintsState (state_lines told) old.sink new.sink fault
