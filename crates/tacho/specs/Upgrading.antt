-- How `upgrade` ends (profile): a unit of version 1 gets version 2 with the amended rule of minutes.
use Rattle.std.specs.Prelude.{◌≡◌, ◌⊎◌, ◌<◌, ◌≤◌, ◌+◌, if◌then◌else◌, ℕ, Bool, true, false, Some, IfSome, option_map}
use Rattle.std.specs.Prelude.{List, [], ◌∷◌, ◌++◌, codes}
use Rattle.std.specs.Io.KnownBytes.{Appends}
use Rattle.tach_media.specs.Medium.{State, LeavesOnly, IsSettled, HasCause, Rose, last_count}
use Rattle.tach_media.specs.Streams.{AppendsFront}
use Rattle.run_model.specs.declared.Device.TheVariants.{Unit as OfUnit}
use Rattle.unit_model.specs.Decoding.{Decodes, first_bad_place}
use Rattle.unit_model.specs.Versions.{version_of}
use Rattle.unit_memory.specs.Upgrades.{upgraded_from, version_before, IsUpgrading}
use Rattle.tacho.specs.declared.end.Fault.{Fault}
use Rattle.tacho.specs.declared.end.Fault.TheVariants.{Done, BadUnit, WriteFault, MediumFault}
use Rattle.tacho.specs.End.{is_medium_fault}
use Rattle.tacho.specs.Outside.{SinkTold}

-- what is printed: `upgraded`, or `already 2` of a unit that had version 2 before
abbrev pub upgrade_line : (newly : Bool) → List ℕ
upgrade_line newly = (if newly then codes "upgraded" else codes "already 2") ++ 10 ∷ []

-- all is done, or the unit is bad, or the sink or the unit failed
abbrev pub IsUpgradeEnd : Fault → Type 0
IsUpgradeEnd Done = Unit {0}
IsUpgradeEnd (BadUnit place) = Unit {0}
IsUpgradeEnd WriteFault = Unit {0}
IsUpgradeEnd (MediumFault failed) = failed ≡ OfUnit
IsUpgradeEnd _ = ⊥

-- THE UNIT IS UPGRADED: its image decodes. Where that had version 1 it has now version 2 with the amended rule, and a
-- stop leaves no other; where it had version 2 nothing was written.
pub record IsUpgraded (newly : Bool) (old new : State) : Type 0 where
  pub version : IfSome old.image (λ x. version_of x ≡ version_before newly)
  pub decodes : IfSome old.image Decodes
  pub image : new.image ≡ option_map upgraded_from old.image
  pub settled : newly ≡ true → new.clock < last_count → IsSettled new
  pub nothing : newly ≡ false → new.clock ≡ old.clock

-- HOW `upgrade` ENDS. It takes no memory.
pub record EndsUpgrade (old new : State) (before after : SinkTold) (fault : Fault) : Type 0 where
  pub ends : IsUpgradeEnd fault
  -- the unit is upgraded, and the line says whether it was so before
  pub done : fault ≡ Done → (newly : Bool) × IsUpgraded newly old new
      × Appends before.held after.held (upgrade_line newly)
  -- a front of the line was printed, of the unit that is upgraded
  pub front : fault ≡ WriteFault
      → (newly : Bool) × IsUpgraded newly old new × AppendsFront before.held after.held (upgrade_line newly)
  -- a unit is bad at the first place of its image that fails, and nothing was written
  pub bad_unit : (place : ℕ) → fault ≡ BadUnit place
      → IfSome old.image (λ x. first_bad_place x ≡ Some place) × (new.clock ≡ old.clock)
  -- what a stop leaves, at each moment and at the end, decodes: it has the old version, or version 2 with the amended
  -- rule, and no minute, no owed row and no ring is another
  pub moments : LeavesOnly old new IsUpgrading
  -- at most two writes begin, whatever fails
  pub writes : new.clock ≤ old.clock + 2
  -- when the unit fails, and when the sink
  pub cause : HasCause old new (is_medium_fault fault)
  pub write_fault : fault ≡ WriteFault → Rose before.faults after.faults
  -- where neither fails, the unit is upgraded, or is bad
  pub finishes : (Rose old.faults new.faults → ⊥) → (Rose before.faults after.faults → ⊥)
      → (fault ≡ Done) ⊎ ((place : ℕ) × (fault ≡ BadUnit place))
