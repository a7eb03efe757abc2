-- Writes elsewhere: in the owed rows, and of insertions, places and events.
use Rattle.std.proofs.Common.{◌≡◌, inl, inr, ⊎_elim, ℕ, ◌<◌, List, sym, subst, arith}
use Rattle.tach_media.specs.Medium.{State, IsCoherent, LeavesOnly, SameOutside}
use Rattle.tach_media.proofs.Images.{part_before, part_after}
use Rattle.unit_minutes.specs.unit_model.declared.layout.TheConstants.{DAY_SLOTS}
use Rattle.unit_minutes.specs.unit_model.Days.{days_kept}
use Rattle.unit_minutes.specs.unit_model.Decoding.{Decodes}
use Rattle.unit_minutes.proofs.unit_model.WholeDays.{decoded_of}
use Rattle.unit_minutes.specs.Beside.{SameJournal}
use Rattle.unit_minutes.proofs.Beside.{beside, last_beside, odometer_beside, pointer_beside, days_beside, recorded_beside}
use Rattle.unit_minutes.proofs.DayOdometers.{records-same}
use Rattle.run_unit_course.specs.log_model.declared.lines.Mark.{Mark}
use Rattle.run_unit_course.specs.history_model.Book.{Book}
use Rattle.safety_model.specs.Unit.{issued_bytes}
use Rattle.unit_rule.specs.Rule.{Started}
use Rattle.unit_rule.specs.Marks.{UnitFollowsBook}
use Rattle.run_unit_course.specs.Legs.{Travel}
use Rattle.unit_rule.specs.Odometer.{HasTravelled, IsBesideTravel}
use Rattle.unit_rule.proofs.Moves.{issued-parts}
use Rattle.unit_rule.proofs.Found.{left-decodes}
use Rattle.unit_rule.proofs.Marking.{holds-aside}
use Rattle.unit_rule.proofs.RowsOn.{AreRowsOn}
use Rattle.unit_rule.proofs.Travelling.{travelled-aside}

-- a write in the owed rows is not read by the journal
pub rows-elsewhere : (x c : List ℕ) → SameOutside 624 384 x c → SameJournal x c
rows-elsewhere x c same = beside 624 384 x c (inr (inl (omega arith, omega arith))) same

-- nor is it in what the unit was issued with
pub rows-issued : (x c : List ℕ) → SameOutside 624 384 x c → issued_bytes c ≡ issued_bytes x
rows-issued x c same =
    issued-parts x c (part_before 624 384 0 564 x c same (omega arith)) (part_before 624 384 580 44 x c same (omega arith)) (part_after 624 384 1008 16 x c same (omega arith)) (part_after 624 384 2393642 2 x c same (omega arith))

-- the unit's rule and its marks
pub holds-elsewhere : (s : Started) {U V : State} (due : ℕ) (b : Book) (marks : List Mark) → UnitFollowsBook s due b marks U → IsCoherent U → (R : List ℕ → List ℕ → Type 0) → LeavesOnly U V R →
    ((x c : List ℕ) → R x c → SameJournal x c × (issued_bytes c ≡ issued_bytes x) × (Decodes x → Decodes c)) → ((x c : List ℕ) → R x c → AreRowsOn s x c) → UnitFollowsBook s due b marks V
holds-elsewhere s {U} {V} due b marks h before R run same steps = holds-aside s due b marks h before (λ x c. Decodes x × R x c)
    (record {
      size = run.size;
      behind = run.behind;
      writable = run.writable;
      layers = run.layers;
      tells = run.tells;
      later = run.later;
      since = λ t c le left. ⊎_elim inl (λ here. inr (here.0, here.1, (left-decodes s due b marks U before h here.0 (before.is_left here.0 here.1), here.2))) (run.since t c le left);
      now = λ c left. ⊎_elim inl (λ here. inr (here.0, here.1, (left-decodes s due b marks U before h here.0 (before.is_left here.0 here.1), here.2))) (run.now c left);
      keeps = run.keeps;
    })
    (λ x c both.
    let is = same x c both.1 in
    (recorded_beside x c is.0 (decoded_of x both.0).known, last_beside x c is.0, is.1, is.2))
    (λ x c both. steps x c both.1)

-- and what an image shows of the odometer
pub beside-travel : (x c : List ℕ) → SameJournal x c → IsBesideTravel x c
beside-travel x c same = record {
  odometer_is = odometer_beside x c same;
  last = last_beside x c same;
  known = λ known. subst (λ (p : ℕ). p < DAY_SLOTS) (sym (pointer_beside x c same)) known;
  days = λ known. records-same x c (days_beside x c same known) (last_beside x c same);
  written = λ known. λ i. days_kept (last_beside x c same i) (days_beside x c same known i);
}

pub travelled-elsewhere : (start : ℕ) (b : Book) (g : Travel) {U V : State} → HasTravelled start b g U → IsCoherent U → (R : List ℕ → List ℕ → Type 0) → LeavesOnly U V R → ((x c : List ℕ) → R x c → SameJournal x c) → HasTravelled start b g V
travelled-elsewhere start b g {U} {V} t before R run same = travelled-aside start b g t before R run (λ x c here. beside-travel x c (same x c here))
