-- What a power-on leaves, and what it takes of the room (profile).
use Rattle.std.specs.Prelude.{◌≡◌, ◌⊎◌, ◌+◌, ◌*◌, ◌≤◌, length}
use Rattle.run_outcome.specs.declared.outcome.TheConstants.{MOST_OWED}
use Rattle.run_outcome.specs.declared.outcome.Outcome.{Outcome}
use Rattle.run_acts.specs.declared.run.Run.{Run}
use Rattle.run_acts.specs.declared.run.Power.TheVariants.{Lit, Lost}
use Rattle.run_acts.specs.Room.{falls_of, bare_seats}

-- power is back, with no minute that waits; or it was lost at once
abbrev pub IsAwake : Run → Type 0
IsAwake run = ((run.power ≡ Lit) × (run.minutes.owing ≡ 0)) ⊎ (run.power ≡ Lost)

-- each card that sat in a slot is found once, with the marks of what it was owed; and one is torn out once
pub record TakesUp (old new : Run) (before after : Outcome) : Type 0 where
  pub rooms : (after.marks.room ≡ before.marks.room) × (after.breaks.room ≡ before.breaks.room)
      × (after.finds.room ≡ before.finds.room)
  pub marks : length after.marks.items ≤ length before.marks.items + MOST_OWED * bare_seats old.keeper.cabin.slots.seats
  pub breaks : length after.breaks.items + falls_of new.keeper.cabin
      ≤ length before.breaks.items + falls_of old.keeper.cabin
  pub finds : length after.finds.items ≤ length before.finds.items + bare_seats old.keeper.cabin.slots.seats

-- the same, and power may be lost once
pub record TakesAwake (old new : Run) (before after : Outcome) : Type 0 where
  pub rooms : (after.marks.room ≡ before.marks.room) × (after.breaks.room ≡ before.breaks.room)
      × (after.finds.room ≡ before.finds.room)
  pub marks : length after.marks.items ≤ length before.marks.items + MOST_OWED * bare_seats old.keeper.cabin.slots.seats
  pub breaks : (length after.breaks.items + falls_of new.keeper.cabin
      ≤ length before.breaks.items + falls_of old.keeper.cabin)
      ⊎ ((new.power ≡ Lost) × (length after.breaks.items + falls_of new.keeper.cabin
      ≤ length before.breaks.items + falls_of old.keeper.cabin + 1))
  pub finds : length after.finds.items ≤ length before.finds.items + bare_seats old.keeper.cabin.slots.seats
