-- A minute as it is written, and the words of both slots by their bits.
use Rattle.std.specs.Prelude.{ℕ, ◌<◌, ◌≤◌, List}
pub use Rattle.unit_minutes.specs.declared.bits.SlotBits.{SlotBits}
pub use Rattle.unit_minutes.specs.declared.coming.Coming.{Coming}
use Rattle.unit_model.specs.declared.layout.TheConstants.{HIGHEST_ODOMETER, LAST_MINUTE}
use Rattle.unit_model.specs.Days.{bare}
use Rattle.unit_model.specs.Changes.{changes, first_state}

-- it is none of the first day, and its bits and its odometer have their ranges
pub record IsComing (m : Coming) : Type 0 where
  pub low : 1440 ≤ m.minute
  pub small : m.minute ≤ LAST_MINUTE
  pub driver : m.bits.driver < 16
  pub codriver : m.bits.codriver < 16
  pub odometer : m.odometer ≤ HIGHEST_ODOMETER

-- no card, rest, single, in both slots
abbrev pub bare_bits : SlotBits
bare_bits = record { driver = bare; codriver = bare }

-- the words that both slots' new states bring
abbrev pub changes_to : (minute : ℕ) → (old new : SlotBits) → List ℕ
changes_to minute old new = changes minute old.driver old.codriver new.driver new.codriver

-- both slots' states at 00:00 of a new day
abbrev pub first_bits : (minute : ℕ) → SlotBits → SlotBits
first_bits minute b = record { driver = first_state minute b.driver; codriver = first_state minute b.codriver }
