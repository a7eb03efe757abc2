-- The odometer, over the entries that are put and the minute that is kept.
use Rattle.std.proofs.Common.{◌≡◌, ℕ, ◌≤◌, Bool, true, false, None, IfSome, List, ap, subst, ◌∙◌}
use Rattle.activity_codec.specs.declared.entries.Entry.{Entry}
use Rattle.tach_media.specs.Medium.{State, IsCoherent, LeavesOnly}
use Rattle.unit_rule.proofs.Moves.{ended}
use Rattle.unit_rule.specs.log_model.declared.lines.Mark.{Mark}
use Rattle.unit_minutes.specs.unit_model.Days.{UnitMinute}
use Rattle.unit_minutes.specs.unit_owed.Rows.{IsPutting}
use Rattle.unit_minutes.specs.Keeping.{IsKept}
use Rattle.unit_rule.specs.history_model.Minutes.{HistoryMinute}
use Rattle.unit_rule.specs.history_model.Book.{Book}
use Rattle.unit_rule.specs.device_rule.Filling.{seen_by_unit}
use Rattle.unit_rule.specs.run_unit_course.Legs.{Travel}
use Rattle.unit_rule.specs.Rule.{Started}
use Rattle.unit_rule.specs.Marks.{UnitFollowsBook}
use Rattle.unit_rule.specs.Odometer.{HasTravelled, IsKeepingDays, odometer_by, odometer_after}
use Rattle.unit_rule.proofs.Travelling.{travelled-kept, travelled-broken}
use Rattle.unit_rule.proofs.Elsewhere.{rows-elsewhere, travelled-elsewhere}
use Rattle.device_calls.specs.Travel.{HasGone}

-- an entry is put
pub put-travelled : (start : ℕ) (b : Book) (g : Travel) {U V : State} → HasTravelled start b g U → IsCoherent U → (number : List ℕ) (e : Entry) → LeavesOnly U V (IsPutting number e) → HasTravelled start b g V
put-travelled start b g t whole number e run = travelled-elsewhere start b g t whole (IsPutting number e) run (λ x c is. rows-elsewhere x c is.outside)

-- a minute is kept
pub keep-gone : {U V : State} (k : UnitMinute) (odometer : ℕ) (i : HistoryMinute) → k ≡ seen_by_unit i → IsCoherent U → LeavesOnly U V (IsKeepingDays k odometer) → (s : Started) (due : ℕ) (b : Book) (marks : List Mark) → UnitFollowsBook s due b marks U → b.maybe ≡ None → due ≤ i.minute →
    (start : ℕ) (g : Travel) (leg : ℕ) → HasTravelled start b g U → odometer ≡ odometer_by (odometer_after start g.before) leg →
    (failed : Bool) → IsCoherent V → (failed ≡ false → V.works ≡ true) → (failed ≡ false → IfSome U.image (λ x. IfSome V.image (IsKept k x))) → HasGone start b g i leg failed V
keep-gone {U} {V} k odometer i is whole run s due b marks h none late start g leg t odometer_is failed after works said = record {
  lit = λ well. travelled-kept start b g t whole s due marks h i odometer leg odometer_is none late keeping (λ c left. (ended (IsKept k) whole after (works well) run (said well) c left).2.last ∙ ap (λ (m : UnitMinute). m.minute) is);
  dark = travelled-broken start b g t whole s due marks h i odometer leg odometer_is none late keeping;
}
  where
    keeping : LeavesOnly U V (IsKeepingDays (seen_by_unit i) odometer)
    keeping = subst (λ (m : UnitMinute). LeavesOnly U V (IsKeepingDays m odometer)) is run
