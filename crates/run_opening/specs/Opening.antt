-- Why the opening of a run is refused, and that it leaves the devices as they were (profile).
use Rattle.std.specs.Prelude.{◌≡◌, ◌⊎◌, ℕ, ◌/◌, ◌<◌, ◌≤◌, Some, IfSome}
use Rattle.tach_media.specs.Medium.{State, LeavesOnly, Unchanged, KeepsBroken, Rose}
use Rattle.run_model.specs.declared.Device.{Device}
use Rattle.run_model.specs.declared.Device.TheVariants.{Unit as Recorder, CardA, CardB}
use Rattle.unit_model.specs.Image.{last_kept}
use Rattle.unit_model.specs.Decoding.{Decodes, first_bad_place}
use Rattle.safety_model.specs.Safe.{Devices}
use Rattle.run_opening.specs.Cards.{HasNumber}
use Rattle.run_opening.specs.declared.fault.RunFault.{RunFault}
use Rattle.run_opening.specs.declared.fault.RunFault.TheVariants.{MediumFault, BadUnit, ClockBack, SameCard}

-- A device is as it was: nothing was written, each image that a stop leaves it might have left before, and it broke
-- down only where a call failed.
pub record IsAsItWas (old new : State) : Type 0 where
  pub leaves : LeavesOnly old new Unchanged
  pub clock : new.clock ≡ old.clock
  pub faults : old.faults ≤ new.faults
  pub breakdowns : old.breakdowns ≤ new.breakdowns
  pub unbroken : Rose old.faults new.faults ⊎ (new.breakdowns ≡ old.breakdowns)
  pub tells : KeepsBroken old new

-- the faults of a device so far
abbrev pub faults_of : Devices → Device → ℕ
faults_of d Recorder = d.unit.faults
faults_of d CardA = d.card_a.faults
faults_of d CardB = d.card_b.faults

-- the unit's image, where it tells it, decodes, and the first second lies in a later minute than the last-kept one
abbrev pub MayGoOn : (start : ℕ) → State → Type 0
MayGoOn start unit = IfSome unit.image (λ x. Decodes x × (last_kept x < start / 60))

-- what was judged before a device failed: before a card the unit and the clock
abbrev pub IsJudgedBefore : (start : ℕ) → Devices → Device → Type 0
IsJudgedBefore start d Recorder = Unit {0}
IsJudgedBefore start d CardA = MayGoOn start d.unit
IsJudgedBefore start d CardB = MayGoOn start d.unit

-- THE CAUSES of a refusal in their order: a device failed; the unit's image does not decode, first at this place; the
-- minute of the first second is not later than the last-kept one; both cards are valid and have this number
abbrev pub IsRefused : (start : ℕ) → (old new : Devices) → RunFault → Type 0
IsRefused start old new (MediumFault device) = Rose (faults_of old device) (faults_of new device)
    × IsJudgedBefore start new device
IsRefused start old new (BadUnit place) = IfSome new.unit.image (λ x. first_bad_place x ≡ Some place)
IsRefused start old new (ClockBack kept second) = (second ≡ start) × (start / 60 ≤ kept)
    × IfSome new.unit.image (λ x. Decodes x × (last_kept x ≡ kept))
IsRefused start old new (SameCard number) = MayGoOn start new.unit × HasNumber number new.card_a
    × HasNumber number new.card_b
