-- What holds of devices after any calls, whatever they tell (profile).
use Rattle.std.specs.Prelude.{◌≡◌, ◌⊎◌, ◌≤◌, ◌<◌, ◌+◌, ◌&&◌, ℕ, not, Option, List, length, filter}
use Rattle.tach_media.specs.Medium.{State, KeepsBroken, Rose, last_count}
use Rattle.log_model.specs.declared.lines.Break.{Break}
use Rattle.log_model.specs.Causes.{is_cut, has_failed}
use Rattle.run_devices.specs.safety_model.Safe.{Devices}
use Rattle.run_events.specs.run_speeds.Speeds.{LeavesSpeeds}
use Rattle.run_crew.specs.declared.cards.Accepted.{Accepted}
use Rattle.run_crew.specs.declared.cards.Cards.{Cards}
use Rattle.run_minutes.specs.Keeping.{tears_of}

-- A DEVICE AFTER SOME CALLS: neither its clock nor a count has fallen, it broke down only where a call failed, and what
-- it tells of earlier breakdowns has stayed.
pub record IsLater (old new : State) : Type 0 where
  pub clock : old.clock ≤ new.clock
  pub faults : old.faults ≤ new.faults
  pub breakdowns : old.breakdowns ≤ new.breakdowns
  pub unbroken : Rose old.faults new.faults ⊎ (new.breakdowns ≡ old.breakdowns)
  pub tells : KeepsBroken old new

-- THE THREE DEVICES after some calls
pub record AreAfter (old new : Devices) : Type 0 where
  pub unit : IsLater old.unit new.unit
  pub card_a : IsLater old.card_a new.card_a
  pub card_b : IsLater old.card_b new.card_b

-- AND SO AFTER CALLS THAT LEAVE THE DETAILED SPEED of the unit as it is
pub record AreLater (old new : Devices) : Type 0 where
  pub unit : IsLater old.unit new.unit
  pub card_a : IsLater old.card_a new.card_a
  pub card_b : IsLater old.card_b new.card_b
  pub speeds : LeavesSpeeds old.unit new.unit

-- how many of these are tears that a failed call made
abbrev pub failed_tears : List Break → ℕ
failed_tears breaks = length (filter (λ b. not (is_cut b) && has_failed b) breaks)

-- A CARD AFTER CALLS that told these breaks more: no such tear was told less, and where none was told more the card has
-- not broken down. Nor has it more often than such tears were told more, as long as that count stands below its last
-- value.
pub record IsCalm (before after : List Break) (old new : State) : Type 0 where
  pub few : failed_tears before ≤ failed_tears after
  pub calm : failed_tears after ≡ failed_tears before → new.breakdowns ≡ old.breakdowns
  pub grows : old.breakdowns ≤ new.breakdowns
  pub most : new.breakdowns < last_count → new.breakdowns + failed_tears before ≤ old.breakdowns + failed_tears after

-- so it is of both, and of the two together
pub record AreCalm (before after : List Break) (d e : Devices) : Type 0 where
  pub card_a : IsCalm before after d.card_a e.card_a
  pub card_b : IsCalm before after d.card_b e.card_b
  pub most : e.card_a.breakdowns < last_count → e.card_b.breakdowns < last_count
      → (e.card_a.breakdowns + e.card_b.breakdowns) + failed_tears before
      ≤ (d.card_a.breakdowns + d.card_b.breakdowns) + failed_tears after

-- A CARD BY ITS SESSION before calls and behind them: where that goes on, or there was none, it has not broken down.
abbrev pub RestsBy : (session after : Option Accepted) → (old new : State) → Type 0
RestsBy session after old new = tears_of session ≤ tears_of after → new.breakdowns ≡ old.breakdowns

-- so it is of both
pub record RestBy (cards after : Cards) (d e : Devices) : Type 0 where
  pub card_a : RestsBy cards.a.accepted after.a.accepted d.card_a e.card_a
  pub card_b : RestsBy cards.b.accepted after.b.accepted d.card_b e.card_b
