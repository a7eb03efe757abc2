-- Calls that store nothing: reading the unit, and mending it.
use Rattle.std.proofs.Common.{◌≡◌, ⊎_elim, List, ℕ, refl}
use Rattle.tach_media.specs.Medium.{IsCoherent, LeavesOnly, Unchanged}
use Rattle.unit_minutes.specs.unit_model.Image.{last_kept, odometer_at}
use Rattle.unit_minutes.specs.declared.notes.Notes.{Notes}
use Rattle.unit_minutes.specs.Mends.{IsMending}
use Rattle.device_calls.proofs.unit_rule.Mending.{mending-odometer}
use Rattle.device_calls.specs.safety_model.Safe.{Devices}
use Rattle.run_acts.proofs.run_note_record.Bases.{StaysStored}

moments-stored : (d e : Devices) (R : List ℕ → List ℕ → Type 0) → IsCoherent d.unit → LeavesOnly d.unit e.unit R → ((x c : List ℕ) → R x c → (odometer_at c ≡ odometer_at x) × (last_kept c ≡ last_kept x)) → StaysStored d e
moments-stored d e R whole run same = record {
  each = λ c at. ⊎_elim
      (λ old. (c, old, refl, refl))
      (λ new. let is = same new.0 c new.2 in (new.0, whole.is_left new.0 new.1, is.1, is.0))
      (run.now c at);
}

-- images that differ in rows and slots of minutes alone tell the same last-kept minute and odometer
pub mend-stays : (j : Notes) (d e : Devices) → IsCoherent d.unit → LeavesOnly d.unit e.unit (IsMending j) → StaysStored d e
mend-stays j d e whole run = moments-stored d e (IsMending j) whole run (λ x c is. mending-odometer j x c is)

pub read-stays : (d e : Devices) → IsCoherent d.unit → LeavesOnly d.unit e.unit Unchanged → StaysStored d e
read-stays d e whole run = moments-stored d e Unchanged whole run (λ x c never. absurd never)
