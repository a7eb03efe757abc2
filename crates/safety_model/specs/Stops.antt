-- The lines by which sessions stop entries by hand (profile).
use Rattle.std.specs.Prelude.{◌≡◌, ℕ, map, filter}
use Rattle.device_rule.specs.log_model.declared.lines.Refused.{Refused}
use Rattle.device_rule.specs.log_model.ByHand.{Asked, asked_of, is_stopped}
use Rattle.safety_model.specs.Recording.{Recording}

-- a place in the course of a run: a second, and how many of its actions had begun
pub record CoursePlace : Type 0 where
  pub second : ℕ
  pub begun : ℕ

-- the place of the course at which a refusal was told
abbrev pub told_at : Refused → CoursePlace
told_at l = record { second = l.second; begun = l.begun }

-- the place of the course at which an entry by hand was asked
abbrev pub asked_at : Asked → CoursePlace
asked_at a = record { second = a.second; begun = a.begun }

-- THE LINES OF SESSIONS are of those that were asked and are stopped: one for each of them, in their order
abbrev pub TellsEachStop : Recording → Type 0
TellsEachStop r = map told_at r.stops ≡ map asked_at (filter (is_stopped r.stops) (asked_of r.log r.trace))
