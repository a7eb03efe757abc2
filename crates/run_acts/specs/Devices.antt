-- What the keeping of minutes leaves of the devices, whatever they tell (profile).
use Rattle.std.specs.Prelude.{◌≡◌, ◌-◌, ◌≤◌, ℕ, Bool, Option, None, List, is_some}
use Rattle.tach_media.specs.Medium.{State, HasCause, HasBroken}
use Rattle.device_calls.specs.safety_model.Safe.{Devices}
use Rattle.run_crew.specs.declared.cards.Accepted.{Accepted}
use Rattle.run_crew.specs.declared.cards.Cards.{Cards}
use Rattle.run_minutes.specs.Keeping.{HasLeftMore, tears_of}
use Rattle.run_minutes.specs.Later.{RestsBy}

-- a card, by its session before and behind it: it goes on, and broke down where that was torn out, and nowhere else;
-- without a session it was not written
pub record CardGoesOn (session after : Option Accepted) (old new : State) : Type 0 where
  pub keeps : HasLeftMore old new
  pub clock : old.clock ≤ new.clock
  pub tells : is_some new.image ≡ is_some old.image
  pub more : old.breakdowns ≤ new.breakdowns
  pub broken : HasBroken old new (tears_of session - tears_of after)
  pub rests : RestsBy session after old new
  pub bare : session ≡ None → (n : ℕ) (x : List ℕ) → new.left_since n x → old.left_since n x

-- UNIT AND CARDS GO ON, by the sessions before and behind it
pub record DevicesGoOn (failed : Bool) (cards after : Cards) (d e : Devices) : Type 0 where
  pub cause : HasCause d.unit e.unit failed
  pub keeps : HasLeftMore d.unit e.unit
  pub tells : is_some e.unit.image ≡ is_some d.unit.image
  pub clock : d.unit.clock ≤ e.unit.clock
  pub card_a : CardGoesOn cards.a.accepted after.a.accepted d.card_a e.card_a
  pub card_b : CardGoesOn cards.b.accepted after.b.accepted d.card_b e.card_b

-- WHAT EACH DEVICE might have left it might have left still
pub record AreLeftMore (d e : Devices) : Type 0 where
  pub unit : HasLeftMore d.unit e.unit
  pub card_a : HasLeftMore d.card_a e.card_a
  pub card_b : HasLeftMore d.card_b e.card_b
