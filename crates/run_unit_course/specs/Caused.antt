-- Which seconds of a log are cuts, and when the last second is over (profile).
use Rattle.std.specs.Prelude.{◌≡◌, ℕ, Bool, false, not, ◌&&◌, nat_eq, List, [], ◌∷◌, map}
use Rattle.std.specs.List.{list_any}
use Rattle.log_model.specs.declared.lines.Break.{Break}
use Rattle.log_model.specs.Course.{ToldSecond}
use Rattle.log_model.specs.Causes.{second_of, cuts}
use Rattle.run_unit_course.specs.Lines.{log_of}

-- the seconds of the cuts that a failed call made, or of those before an `off` line
abbrev pub cuts_by : Bool → List Break → List ℕ
cuts_by failed breaks = map second_of (cuts failed (log_of breaks))

-- the last second was dark, or a failed call took its power
abbrev pub IsOver : List ℕ → List ToldSecond → Type 0
IsOver failed [] = Unit {0}
IsOver failed (t ∷ []) = (t.lit && not (list_any (nat_eq t.second.number) failed)) ≡ false
IsOver failed (t ∷ next ∷ told) = IsOver failed (next ∷ told)
