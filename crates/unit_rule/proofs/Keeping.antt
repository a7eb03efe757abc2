-- A moment of a keep, as the image says it, is one of the rule's keeping.
use Rattle.std.proofs.Common.{◌≡◌, ◌⊎◌, inl, inr, ℕ, ◌-◌, List, sym, ◌∙◌, ap, arith}
use Rattle.tach_media.proofs.card_layout.Images.{part_in}
use Rattle.tach_media.specs.Medium.{bytes_at}
use Rattle.unit_minutes.proofs.unit_model.Retention.{begins_one}
use Rattle.unit_minutes.specs.unit_model.declared.layout.TheConstants.{DAYS, FIRST_OVER, OWED}
use Rattle.unit_minutes.specs.unit_model.Image.{recorded}
use Rattle.unit_minutes.specs.unit_owed.Owed.{rows_in}
use Rattle.unit_minutes.proofs.unit_owed.Laws.{view_by_rows}
use Rattle.unit_minutes.specs.Image.{SameBesides, IsGivenUp, IsBeforeLastKept, IsBehindLastKept, IsKeeping as IsKeepingImage, IsKept as IsKeptImage}
use Rattle.run_unit_course.specs.history_model.Minutes.{HistoryMinute}
use Rattle.safety_model.specs.device_rule.Views.{unit_view}
use Rattle.safety_model.specs.device_rule.Steps.{SameRows, IsKeeping, IsKept}
use Rattle.safety_model.specs.device_rule.Filling.{seen_by_unit, KeepsMinute, GivesUpDay}

-- the owed rows lie between the odometer and the days
rows_same : (x c : List ℕ) → SameBesides x c → rows_in c ≡ rows_in x
rows_same x c s =
    sym (part_in c FIRST_OVER.place (DAYS.place - FIRST_OVER.place) (OWED.place - FIRST_OVER.place) OWED.size (omega arith))
    ∙ ap (λ (l : List ℕ). bytes_at l (OWED.place - FIRST_OVER.place) OWED.size) s.between
    ∙ part_in x FIRST_OVER.place (DAYS.place - FIRST_OVER.place) (OWED.place - FIRST_OVER.place) OWED.size (omega arith)

module _ (a b : List ℕ) (x c : List ℕ) where
  same_rows : SameBesides x c → SameRows (unit_view a b x) (unit_view a b c)
  unfolding unit_view
  same_rows s = record { row_a = view_by_rows x c a (rows_same x c s); row_b = view_by_rows x c b (rows_same x c s) }

module _ (a b : List ℕ) (i : HistoryMinute) (odometer : ℕ) (x c : List ℕ) where
  given_up : IsGivenUp (seen_by_unit i) x c → GivesUpDay i (recorded x) (recorded c)
  given_up g = record { full = g.full; further = begins_one i.minute (recorded x) g.begins; given = g.newest }

  given_days : (recorded c ≡ recorded x) ⊎ IsGivenUp (seen_by_unit i) x c → (recorded c ≡ recorded x) ⊎ GivesUpDay i (recorded x) (recorded c)
  given_days (inl same) = inl same
  given_days (inr given) = inr (given_up given)

  by_side : SameBesides x c → IsBeforeLastKept (seen_by_unit i) odometer x c ⊎ IsBehindLastKept (seen_by_unit i) odometer x c → IsKeeping KeepsMinute GivesUpDay i (unit_view a b x) (unit_view a b c)
  unfolding unit_view
  by_side outside (inl before) = inl (record { rows = same_rows a b x c outside; last = before.last; days = given_days before.minutes })
  by_side outside (inr behind) = inr (record { rows = same_rows a b x c outside; last = behind.last; days = behind.minutes })

  pub keeping_view : IsKeepingImage (seen_by_unit i) odometer x c → IsKeeping KeepsMinute GivesUpDay i (unit_view a b x) (unit_view a b c)
  keeping_view k = by_side k.outside k.side

-- and its end
module _ (a b : List ℕ) (i : HistoryMinute) (x c : List ℕ) where
  pub kept_view : IsKeptImage (seen_by_unit i) x c → IsKept KeepsMinute i (unit_view a b x) (unit_view a b c)
  unfolding unit_view
  kept_view k = record { rows = same_rows a b x c k.outside; last = k.last; days = k.minutes }
