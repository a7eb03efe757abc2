-- What the opening of a run found of its devices (profile).
use Rattle.std.specs.Prelude.{ℕ, List}
use Rattle.run_course.specs.activity_codec.declared.entries.Entry.{Entry}
use Rattle.run_course.specs.trace_model.declared.Card.{Card}
use Rattle.run_course.specs.trace_model.declared.Card.TheVariants.{A, B}
use Rattle.tach_media.specs.Medium.{State, bytes_at}
use Rattle.unit_rule.specs.tacho_types.declared.texts.Registration.{Registration}
use Rattle.unit_rule.specs.unit_model.declared.layout.TheConstants.{REGISTRATION}
use Rattle.run_course.specs.history_model.Presence.{CardStart}
use Rattle.unit_rule.specs.device_rule.View.{Held}
use Rattle.unit_rule.specs.device_rule.Views.{UnitView}
use Rattle.unit_rule.specs.device_rule.Device.{Seen}
use Rattle.unit_rule.specs.device_rule.Marked.{of_unit}
use Rattle.unit_rule.specs.Rule.{Started}

-- the registration of the unit's vehicle, by the unit's image
abbrev pub registration_of : List ℕ → Registration
registration_of unit = record { 0 = bytes_at unit REGISTRATION.place REGISTRATION.size }

-- of a card its image, what it brings, its number, and the clock; a card that is not valid has a number that no card
-- has. And the vehicle of the unit into which it is put
pub record CardFound : Type 0 where
  pub image : List ℕ
  pub start : CardStart
  pub number : List ℕ
  pub began : ℕ
  pub vehicle : Registration

-- of the unit its days and last-kept minute, and of the cards what they bring
pub record Found : Type 0 where
  pub unit : Started
  pub card_a : CardFound
  pub card_b : CardFound

-- what was found of one of the cards
abbrev pub found_of : Found → Card → CardFound
found_of f A = f.card_a
found_of f B = f.card_b

-- the unit by what its images show where the cards have these numbers
abbrev pub unit_seen : Found → State → Seen UnitView
unit_seen f unit = of_unit f.card_a.number f.card_b.number unit

-- What overwriting leaves of a card's entries is carried apart from the rule that joins it to the unit.
abbrev pub AnyKept : ℕ → List Entry → Held → Type 0
AnyKept next all held = Unit {0}
