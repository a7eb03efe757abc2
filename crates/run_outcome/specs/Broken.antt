-- How often a unit broke down, by the cuts that its calls made (profile).
use Rattle.std.specs.Prelude.{◌≡◌, ℕ, ◌+◌, ◌-◌, ◌≤◌, ◌<◌, min, true, List, length}
use Rattle.tach_media.specs.Medium.{State, last_count}
use Rattle.log_model.specs.declared.lines.Break.{Break}
use Rattle.run_unit_course.specs.Caused.{cuts_by}

-- how many of these are cuts that a failed call made
abbrev pub failed_cuts : List Break → ℕ
failed_cuts breaks = length (cuts_by true breaks)

-- Each such cut more is a breakdown of the unit more, or their count stands at its last value; and where no cut is told
-- more, the unit has not broken down any more. Nor has it more often than such cuts are told more, as long as that
-- count stands below its last value.
pub record BreaksDown (before after : List Break) (old new : State) : Type 0 where
  pub few : failed_cuts before ≤ failed_cuts after
  pub broke : min (old.breakdowns + (failed_cuts after - failed_cuts before)) last_count ≤ new.breakdowns
  pub calm : failed_cuts after ≡ failed_cuts before → new.breakdowns ≡ old.breakdowns
  pub most : new.breakdowns < last_count → new.breakdowns + failed_cuts before ≤ old.breakdowns + failed_cuts after
