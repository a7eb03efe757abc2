-- What an opening finds of the unit, and why it is refused by it (profile).
use Rattle.std.specs.Prelude.{◌≡◌, ℕ, ◌/◌, ◌≤◌, true, Some, IfSome}
use Rattle.tach_media.specs.Medium.{State, Rose}
use Rattle.run_model.specs.declared.Device.TheVariants.{Unit as Recorder}
use Rattle.unit_model.specs.Image.{last_kept}
use Rattle.unit_model.specs.Decoding.{Decodes, first_bad_place}
use Rattle.unit_memory.specs.declared.fault.UnitFault.{UnitFault}
use Rattle.unit_memory.specs.declared.fault.UnitFault.TheVariants.{Failed, BadUnit as Bad}
use Rattle.unit_minutes.specs.declared.notes.Notes.{Notes}
use Rattle.unit_minutes.specs.Image.{IsFoundBy}
use Rattle.run_opening.specs.declared.fault.RunFault.{RunFault}
use Rattle.run_opening.specs.declared.fault.RunFault.TheVariants.{MediumFault, BadUnit, ClockBack, SameCard}

-- a unit was loaded: it works, and where it tells its image, that decodes and the journal is what was found there
pub record IsLoaded (unit : State) (journal : Notes) : Type 0 where
  pub works : unit.works ≡ true
  pub decodes : IfSome unit.image Decodes
  pub found : IfSome unit.image (IsFoundBy journal)

-- a unit was not loaded: a call failed, or the image does not decode, first at this place
abbrev pub IsNotLoaded : (old new : State) → UnitFault → Type 0
IsNotLoaded old new Failed = Rose old.faults new.faults
IsNotLoaded old new (Bad place) = IfSome new.image (λ x. first_bad_place x ≡ Some place)

-- a unit that is not loaded since a call failed broke down
abbrev pub HasBrokenDown : (old new : State) → UnitFault → Type 0
HasBrokenDown old new Failed = Rose old.breakdowns new.breakdowns
HasBrokenDown old new (Bad place) = Unit {0}

-- how the opening tells why a unit was not loaded
abbrev pub opening_fault : UnitFault → RunFault
opening_fault Failed = MediumFault Recorder
opening_fault (Bad place) = BadUnit place

-- the clock was put back: the minute of the second is not later than the kept minute
abbrev pub IsClockBack : (kept second : ℕ) → RunFault → Type 0
IsClockBack kept second fault = (fault ≡ ClockBack kept second) × (second / 60 ≤ kept)

-- a refusal by the unit: it failed; its image does not decode; the minute of the first second is not later than its
-- last-kept minute
abbrev pub IsUnitRefused : (start : ℕ) → (old new : State) → RunFault → Type 0
IsUnitRefused start old new (MediumFault device) = (device ≡ Recorder) × Rose old.faults new.faults
IsUnitRefused start old new (BadUnit place) = IfSome new.image (λ x. first_bad_place x ≡ Some place)
IsUnitRefused start old new (ClockBack kept second) = (second ≡ start) × (start / 60 ≤ kept)
    × IfSome new.image (λ x. Decodes x × (last_kept x ≡ kept))
IsUnitRefused start old new (SameCard number) = ⊥
