-- What the dates of day slots say, one after the other.
use Rattle.std.specs.Prelude.{ℕ, ◌+◌, ◌/◌, max, ◌==◌, if◌then◌else◌, Some, None, List, [], ◌∷◌}
use Rattle.unit_model.specs.Image.{slot_date}
use Rattle.unit_memory.specs.declared.walk.Density.{Density}
use Rattle.unit_memory.specs.declared.walk.Density.TheVariants.{Empty, Filled, Ended, Broken}
use Rattle.unit_memory.specs.declared.walk.Walk.{Walk}

-- how the slots stand with one more that is there
abbrev pub after_day : Density → Density
after_day Empty = Filled
after_day Filled = Filled
after_day Ended = Broken
after_day Broken = Broken

-- and with an empty one more
abbrev pub after_gap : Density → Density
after_gap Empty = Empty
after_gap Filled = Ended
after_gap Ended = Broken
after_gap Broken = Broken

-- no slot is read yet
abbrev pub walk_start : Walk
walk_start = record { latest = 0; last_index = 0; last_date = 0; today = None; there = 0; density = Empty }

-- with an empty slot more
abbrev pub with_gap : Walk → Walk
with_gap s = record {
  latest = s.latest;
  last_index = s.last_index;
  last_date = s.last_date;
  today = s.today;
  there = s.there;
  density = after_gap s.density;
}

-- and with one more that is there, at this index and with this date
abbrev pub with_day : (day : ℕ) → Walk → (index date : ℕ) → Walk
with_day day s index date = record {
  latest = max s.latest date;
  last_index = index;
  last_date = date;
  today = if date / 86400 == day then Some index else s.today;
  there = s.there + 1;
  density = after_day s.density;
}

-- with the slot of one index more, which has this date
abbrev pub next_walk : (day : ℕ) → Walk → (index date : ℕ) → Walk
next_walk day s index date = if date == 0 then with_gap s else with_day day s index date

-- with the slots of these indices more
abbrev pub walk_from : (day : ℕ) → List ℕ → Walk → List ℕ → Walk
walk_from day x s [] = s
walk_from day x s (i ∷ is) = walk_from day x (next_walk day s i (slot_date x i)) is
