-- The room that a run needs for what is to come, and what a call takes of it (profile).
use Rattle.std.specs.Prelude.{◌≡◌, ℕ, ◌+◌, ◌-◌, ◌*◌, ◌/◌, ◌<◌, ◌≤◌, Bool, true, false, Option, Some, None, length}
use Rattle.run_crew.specs.card_slots.declared.seats.Seat.{Seat}
use Rattle.run_crew.specs.card_slots.Calls.{Seats}
use Rattle.run_crew.specs.declared.cabin.Cabin.{Cabin}
use Rattle.run_outcome.specs.declared.outcome.TheConstants.{MOST_OWED}
use Rattle.run_outcome.specs.declared.outcome.Outcome.{Outcome}
use Rattle.run_minutes.specs.Keeping.{most_tears}
use Rattle.run_acts.specs.declared.run.Run.{Run}
use Rattle.run_acts.specs.declared.run.Power.{Power}
use Rattle.run_acts.specs.declared.run.Power.TheVariants.{Lit, Due, Lost}
use Rattle.run_acts.specs.Power.{is_lit}

-- the minutes before that of the next second that may still be kept
abbrev pub waiting : Power → ℕ → ℕ
waiting Lit owing = owing
waiting Due owing = 0
waiting Lost owing = 0

-- of a run: those that its minutes owe
abbrev pub waiting_of : Run → ℕ
waiting_of run = waiting run.power run.minutes.owing

-- a slot has a card that is not accepted
abbrev pub bare_count : Option Seat → ℕ
bare_count None = 0
bare_count (Some seat) = one seat.newest
  where
    one : Option ℕ → ℕ
    one None = 1
    one (Some newest) = 0

-- so many slots have a card that is not accepted
abbrev pub bare_seats : Seats → ℕ
bare_seats seats = bare_count seats.driver + bare_count seats.codriver

-- so many cards can be torn out: each that sits in a slot or is leaving
abbrev pub falls_of : Cabin → ℕ
falls_of cabin = bare_seats cabin.slots.seats + most_tears cabin.cards

-- the next power-on finds each card that sits in a slot
abbrev pub finds_due : (lit : Bool) → Cabin → ℕ
finds_due true cabin = 0
finds_due false cabin = bare_seats cabin.slots.seats

-- the number of the first minute that can still have a cut, as it is between two seconds
abbrev pub cuts_from : Power → ℕ → ℕ
cuts_from Lit next = next / 60
cuts_from Due next = next / 60
cuts_from Lost next = (next + 59) / 60

-- and as it is within a second: where power is lost in it, that of the next minute
abbrev pub cuts_within : Power → ℕ → ℕ
cuts_within Lit next = next / 60
cuts_within Due next = next / 60
cuts_within Lost next = next / 60 + 1

-- ROOM for so many more seconds, with so many `off` lines, insertions and actions. A minute has three marks, and a card
-- that is found those of what it was owed; a cut is one break, a card that is torn out is one; and a cut gives two
-- finds, an insertion one.
pub record HasRoomFrom (from : Power → ℕ → ℕ) (run : Run) (o : Outcome) (left offs insertions actions : ℕ) : Type
    0 where
  pub breaks : length o.breaks.items + ((run.next + left) / 60 + offs) + insertions + falls_of run.keeper.cabin
      < o.breaks.room + from run.power run.next
  pub finds : length o.finds.items + 2 * ((run.next + left) / 60 + offs + 1) + insertions
      + finds_due (is_lit run.power) run.keeper.cabin
      ≤ o.finds.room + 2 * from run.power run.next
  pub marks : length o.marks.items + 3 * ((run.next + left) / 60)
      + MOST_OWED * (2 * ((run.next + left) / 60 + offs + 1) + insertions
      + finds_due (is_lit run.power) run.keeper.cabin)
      ≤ o.marks.room + 3 * (run.next / 60 - waiting_of run) + MOST_OWED * (2 * from run.power run.next)
  pub refused : length o.refused.items + actions ≤ o.refused.room

-- between two seconds
abbrev pub HasRoom : Run → Outcome → (left offs insertions actions : ℕ) → Type 0
HasRoom run o left offs insertions actions = HasRoomFrom cuts_from run o left offs insertions actions

-- and within one
abbrev pub HasRoomWithin : Run → Outcome → (left offs insertions actions : ℕ) → Type 0
HasRoomWithin run o left offs insertions actions = HasRoomFrom cuts_within run o left offs insertions actions

-- A CALL TAKES at most so many finds, and puts in so many cards; it refuses at most so many actions. A minute that is
-- kept has its three marks, and a card that is torn out its break.
pub record Takes (found put_in turned_away : ℕ) (old new : Run) (before after : Outcome) : Type 0 where
  pub rooms : (after.marks.room ≡ before.marks.room) × (after.breaks.room ≡ before.breaks.room)
      × (after.finds.room ≡ before.finds.room) × (after.refused.room ≡ before.refused.room)
  pub marks : length after.marks.items + 3 * waiting_of new
      ≤ length before.marks.items + 3 * waiting_of old + MOST_OWED * found
  pub breaks : length after.breaks.items + falls_of new.keeper.cabin
      ≤ length before.breaks.items + falls_of old.keeper.cabin + put_in
  pub finds : length after.finds.items ≤ length before.finds.items + found
  pub refused : length after.refused.items ≤ length before.refused.items + turned_away

-- it takes no find, puts no card in and refuses nothing
abbrev pub TakesNone : (old new : Run) → (before after : Outcome) → Type 0
TakesNone old new before after = Takes 0 0 0 old new before after

-- it takes a find at most
abbrev pub TakesFind : (old new : Run) → (before after : Outcome) → Type 0
TakesFind old new before after = Takes 1 0 0 old new before after

-- it takes a find at most, and puts in a card at most
abbrev pub TakesCard : (old new : Run) → (before after : Outcome) → Type 0
TakesCard old new before after = Takes 1 1 0 old new before after
