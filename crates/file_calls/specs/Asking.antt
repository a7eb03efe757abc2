-- What single questions to a unit file answer (profile).
use Rattle.std.specs.Prelude.{◌≡◌, ℕ, ◌*◌, ◌≤◌, ◌==◌, true, Option, Some, None, List, []}
use Rattle.std.specs.List.{list_any, AllByRecursion}
use Rattle.view_model.specs.declared.UnitShown.{UnitShown}
use Rattle.view_model.specs.Lines.{day_of_minute}
use Rattle.unit_model.specs.Days.{UnitMinute}
use Rattle.card_match.specs.Matching.{minute_at}
use Rattle.card_match.specs.Cases.{shown_of}

-- what is shown of a minute with this number: of the first one, if there is one
abbrev pub shown_at : List UnitMinute → ℕ → Option UnitShown
shown_at minutes minute = shown_of (minute_at minutes minute)

-- one of the minutes lies on this day, and none on an earlier one
pub record IsLeastDay (minutes : List UnitMinute) (day : ℕ) : Type 0 where
  pub there : list_any (λ m. day_of_minute m.minute == day) minutes ≡ true
  pub least : AllByRecursion (λ m. day ≤ day_of_minute m.minute) minutes

-- the first second of their first day; none where there is no minute
abbrev pub IsFirstDay : List UnitMinute → Option ℕ → Type 0
IsFirstDay minutes None = minutes ≡ []
IsFirstDay minutes (Some second) = (day : ℕ) × (second ≡ 86400 * day) × IsLeastDay minutes day
