-- How many lines a run can have (profile).
use Rattle.std.specs.Prelude.{◌≡◌, ◌≤◌, ℕ, ◌+◌, ◌*◌, ◌/◌, Bool, true, false, if◌then◌else◌, List, [], length, count_by}
use Rattle.trace_model.specs.declared.Action.{Action}
use Rattle.trace_model.specs.declared.Action.TheVariants.{Select, Insert, Withdraw, Tear, Place, Manual}
use Rattle.trace_model.specs.declared.Item.{Item}
use Rattle.trace_model.specs.declared.Item.TheVariants.{Run, Off, Act}
use Rattle.trace_model.specs.Trace.{total_seconds}
use Rattle.run_outcome.specs.declared.outcome.Outcome.{Outcome}
use Rattle.run_outcome.specs.declared.outcome.TheConstants.{MOST_OWED, MOST_OWING, MOST_FALLEN, SLOTS}

-- a line of seconds without power
abbrev pub is_off : Item → Bool
is_off (Run seconds speed) = false
is_off (Off seconds) = true
is_off (Act action) = false

-- an action puts a card into a slot
abbrev pub puts_in : Action → Bool
puts_in (Select slot pick) = false
puts_in (Insert slot card) = true
puts_in (Withdraw slot) = false
puts_in (Tear slot) = false
puts_in (Place slot ending country region) = false
puts_in (Manual slot pick minute) = false

-- a line is such an action
abbrev pub is_insertion : Item → Bool
is_insertion (Run seconds speed) = false
is_insertion (Off seconds) = false
is_insertion (Act action) = puts_in action

-- how many `off` lines an item is
abbrev pub off_count : Item → ℕ
off_count item = if is_off item then 1 else 0

-- how many `off` lines these are
abbrev pub offs : List Item → ℕ
offs items = count_by is_off items

-- how many insertions an item is
abbrev pub insertion_count : Item → ℕ
insertion_count item = if is_insertion item then 1 else 0

-- how many insertions these are
abbrev pub insertions : List Item → ℕ
insertions items = count_by is_insertion items

-- the minutes that the seconds of these items touch, at most
abbrev pub most_minutes : List Item → ℕ
most_minutes items = total_seconds items / 60 + 2

-- power is back at a minute or behind an `off` line, so each of these has one cut at most
abbrev pub most_cuts : List Item → ℕ
most_cuts items = most_minutes items + offs items

-- a card is torn out of a slot only where it was put in since the last tear, or sat there at its begin
abbrev pub most_breaks : List Item → ℕ
most_breaks items = most_cuts items + insertions items

-- each action is refused once at most
abbrev pub most_refused : List Item → ℕ
most_refused items = length items

-- a power-on finds two cards at most, and an insertion one
abbrev pub most_finds : List Item → ℕ
most_finds items = 2 * most_cuts items + insertions items

-- each minute is acknowledged once by each of the three devices, and a card that is found acknowledges what it was owed
abbrev pub most_marks : List Item → ℕ
most_marks items = 3 * most_minutes items + MOST_OWED * most_finds items

-- an outcome has no line, and was reserved for a trace
pub record IsReserved (items : List Item) (o : Outcome) : Type 0 where
  pub marks : o.marks ≡ record { items = []; room = most_marks items }
  pub breaks : o.breaks ≡ record { items = []; room = most_breaks items }
  pub refused : o.refused ≡ record { items = []; room = most_refused items }
  pub finds : o.finds ≡ record { items = []; room = most_finds items }

-- ---- the room for one item more, of a run that is underway

-- the minutes that so many seconds touch, at most
abbrev pub more_minutes : (seconds : ℕ) → ℕ
more_minutes seconds = seconds / 60 + 2

-- each of them has one cut at most, and so has an `off` line
abbrev pub more_cuts : (seconds : ℕ) → ℕ
more_cuts seconds = more_minutes seconds + 1

-- a card is torn out where it sits or is leaving, or where one of these actions puts it in
abbrev pub more_breaks : (seconds actions : ℕ) → ℕ
more_breaks seconds actions = more_cuts seconds + MOST_FALLEN + actions

-- a power-on finds two cards at most, an insertion one; and power may be due as the item begins
abbrev pub more_finds : (seconds actions : ℕ) → ℕ
more_finds seconds actions = 2 * more_cuts seconds + SLOTS + actions

-- each minute is acknowledged once by each of the three devices, also those that wait to be kept; and a card that is
-- found acknowledges what it was owed
abbrev pub more_marks : (seconds actions : ℕ) → ℕ
more_marks seconds actions = 3 * (more_minutes seconds + MOST_OWING) + MOST_OWED * more_finds seconds actions

-- ROOM IS FREE for so many seconds more, where so many actions wait for the first of them
pub record HasFree (seconds actions : ℕ) (o : Outcome) : Type 0 where
  pub marks : length o.marks.items + more_marks seconds actions ≤ o.marks.room
  pub breaks : length o.breaks.items + more_breaks seconds actions ≤ o.breaks.room
  pub refused : length o.refused.items + actions ≤ o.refused.room
  pub finds : length o.finds.items + more_finds seconds actions ≤ o.finds.room

-- AN OUTCOME HAS THE LINES OF ANOTHER, and no less room
pub record HasLinesOf (before after : Outcome) : Type 0 where
  pub marks : (after.marks.items ≡ before.marks.items) × (before.marks.room ≤ after.marks.room)
  pub breaks : (after.breaks.items ≡ before.breaks.items) × (before.breaks.room ≤ after.breaks.room)
  pub refused : (after.refused.items ≡ before.refused.items) × (before.refused.room ≤ after.refused.room)
  pub finds : (after.finds.items ≡ before.finds.items) × (before.finds.room ≤ after.finds.room)
