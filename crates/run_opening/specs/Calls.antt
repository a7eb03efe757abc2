-- What an opening finds of the devices of a run, and how it leaves them, each in a record (profile).
use Rattle.std.specs.Prelude.{ℕ, ◌/◌, ◌<◌, IfSome, false, ◌≡◌, ◌≤◌}
use Rattle.card_layout.specs.declared.command.CardState.{CardState}
use Rattle.safety_model.specs.Safe.{Devices}
use Rattle.tach_media.specs.Medium.{HasCause, State, revivable}
use Rattle.unit_memory.specs.Identified.{AreFacts}
use Rattle.unit_model.specs.Image.{IsUnit}
use Rattle.run_opening.specs.Cards.{AreTwo, IsFoundOn}
use Rattle.run_opening.specs.Opening.{IsAsItWas}
use Rattle.run_opening.specs.Units.{IsLoaded}
use Rattle.run_opening.specs.declared.on_unit.OpenedUnit.{OpenedUnit}
use Rattle.run_opening.specs.declared.opening.Opened.{Opened}
use Rattle.unit_model.specs.declared.layout.TheConstants.{IMAGE_SIZE}
use Rattle.card_layout.specs.declared.files.TheConstants.{LARGEST_IMAGE}

-- THE UNIT IS FOUND: it was loaded, what it was told of the vehicle is known, and its last-kept minute is earlier than
-- that of the first second
pub record UnitIsFound (start : ℕ) (unit : State) (opened : OpenedUnit) : Type 0 where
  pub loaded : IsLoaded unit opened.journal
  pub facts : IfSome unit.image (AreFacts opened.memory)
  pub later : opened.journal.kept < start / 60

-- THE DEVICES ARE FOUND: the unit; what each card tells is known; and the two do not both have one number
pub record DevicesAreFound (start : ℕ) (V X Y : State) (chip_a chip_b : CardState) (opened : Opened) : Type 0 where
  pub unit : UnitIsFound start V opened.unit
  pub card_a : IsFoundOn opened.card_a chip_a X
  pub card_b : IsFoundOn opened.card_b chip_b Y
  pub two : AreTwo opened.card_a.number opened.card_b.number

-- THE DEVICES ARE AS THEY WERE: nothing was written, and a unit is a unit still
pub record DevicesAreAsTheyWere (old new : Devices) : Type 0 where
  pub unit : IsAsItWas old.unit new.unit
  pub is_unit : IsUnit old.unit → IsUnit new.unit
  pub card_a : IsAsItWas old.card_a new.card_a
  pub card_b : IsAsItWas old.card_b new.card_b

-- EACH DEVICE WORKS behind its revival, and none broke down more
pub record DevicesWork (old new : Devices) : Type 0 where
  pub unit : HasCause (revivable old.unit) new.unit false
  pub card_a : HasCause (revivable old.card_a) new.card_a false
  pub card_b : HasCause (revivable old.card_b) new.card_b false

-- THE DEVICES HAVE THEIR SIZES: the unit that of its image, and each card that of the largest one at least
pub record AreSized (d : Devices) : Type 0 where
  pub unit : d.unit.size ≡ IMAGE_SIZE
  pub card_a : LARGEST_IMAGE ≤ d.card_a.size
  pub card_b : LARGEST_IMAGE ≤ d.card_b.size
