-- How many writes a trace begins at most: by its power-ons, its turns and its actions (profile).
use Rattle.std.specs.Prelude.{ℕ, ◌+◌, ◌*◌, ◌%◌, ◌≤◌, ◌||◌, min, Bool, true, false, nat_le, List, [], ◌∷◌, length}
use Rattle.std.specs.Prelude.{Result, is_err, count_by, take, drop}
use Rattle.trace_model.specs.declared.Item.{Item}
use Rattle.trace_model.specs.declared.Item.TheVariants.{Run as Driven, Off, Act}
use Rattle.trace_model.specs.Trace.{TraceSecond, driven, item_seconds}
use Rattle.log_model.specs.declared.lines.Break.{Break}
use Rattle.device_calls.specs.safety_model.Safe.{Devices}
use Rattle.run_opening.specs.declared.fault.RunFault.{RunFault}
use Rattle.run_outcome.specs.Broken.{failed_cuts}
use Rattle.run_outcome.specs.Room.{offs}
use Rattle.run_outcome.specs.declared.outcome.Outcome.{Outcome}
use Rattle.run_minutes.specs.Writes.{WroteAtMost}
use Rattle.run_acts.specs.declared.run.Run.{Run}
use Rattle.run_acts.specs.Power.{is_lit}
use Rattle.run_acts.specs.Writes.{turn_unit_most, settle_card_most}
use Rattle.recorder_with_cards.specs.Recorded.{actions_in}

-- ---- how many each takes

-- A CARD IS ACCEPTED, or refused: so many writes at most on the unit
abbrev pub accept_unit_most : ℕ
accept_unit_most = 24

-- and on the card
abbrev pub accept_card_most : ℕ
accept_card_most = 1072

-- AN ACTION, of which an insertion takes most: those of settling and of accepting
abbrev pub action_unit_most : ℕ
action_unit_most = 102

-- and on a card
abbrev pub action_card_most : ℕ
action_card_most = 1366

-- POWER IS BACK: the unit is mended, the gap noted, and two cards are accepted
abbrev pub resume_unit_most : ℕ
resume_unit_most = 94

-- and on a card: no more than those of both
abbrev pub resume_card_most : ℕ
resume_card_most = 2152

-- SO MANY TURNS AND ACTIONS, and no power-on, begin at most so many writes on the unit, and so many on each card.
abbrev pub WritesFor : (turns actions : ℕ) → (old new : Devices) → Type 0
WritesFor turns actions old new =
    WroteAtMost (turn_unit_most * turns + action_unit_most * actions)
    (settle_card_most * turns + action_card_most * actions) old new

-- and so many with these power-ons, on the unit
abbrev pub unit_most : (power_ons turns actions : ℕ) → ℕ
unit_most power_ons turns actions =
    resume_unit_most * power_ons + (turn_unit_most * turns + action_unit_most * actions)

-- and so many on a card
abbrev pub card_most : (power_ons turns actions : ℕ) → ℕ
card_most power_ons turns actions =
    resume_card_most * power_ons + (settle_card_most * turns + action_card_most * actions)

-- ---- how many turns a trace takes

-- a second begins a minute, or comes behind one that does
abbrev pub opens : TraceSecond → Bool
opens second = nat_le (second.number % 60) 1

-- THE TURNS among some seconds: each of the first so many is one, and of the others each that begins a minute or comes
-- behind one that does.
abbrev pub turns_among : (first : ℕ) → List TraceSecond → ℕ
turns_among first seconds = length (take first seconds) + count_by opens (drop first seconds)

-- a `run` line from a number on has two turns at its begin; no other line has a turn
abbrev pub turns_at : (number : ℕ) → Item → ℕ
turns_at number (Driven seconds speed) = turns_among 2 (driven seconds number speed [])
turns_at number (Off seconds) = 0
turns_at number (Act action) = 0

-- the turns of all lines of a trace that begins at a number
abbrev pub turns_from : (number : ℕ) → List Item → ℕ
turns_from number [] = 0
turns_from number (item ∷ items) = turns_at number item + turns_from (number + item_seconds item) items

-- THE TURNS OF A TRACE
unfoldable pub turns_of : (start : ℕ) → List Item → ℕ
turns_of start items = turns_from start items

-- the actions that wait for the first second of a line, where so many do, are done in it
abbrev pub acts_at : (waiting : ℕ) → Item → ℕ
acts_at waiting (Driven seconds speed) = waiting
acts_at waiting (Off seconds) = 0
acts_at waiting (Act action) = 0

-- ---- how many power-ons a run has

-- THE POWER-ONS that are told: one for each cut that a failed call made, and one more where the power is on
abbrev pub power_ons_told : (on : Bool) → List Break → ℕ
power_ons_told true breaks = failed_cuts breaks + 1
power_ons_told false breaks = failed_cuts breaks

-- of a run so far; one that an `off` line has ended is none of them
abbrev pub powered : Run → Outcome → ℕ
powered run o = power_ons_told (is_lit run.power) o.breaks.items

-- behind a call; a unit that it refuses is refused at a power-on
abbrev pub powered_by : Result (Unit {0}) RunFault → Run → Outcome → ℕ
powered_by result run o = power_ons_told (is_err result || is_lit run.power) o.breaks.items

-- SO MANY TURNS AND ACTIONS, each turn with one power-on at most, and no more than are told between two moments: they
-- begin at most so many writes.
pub record WritesBetween (turns actions was is : ℕ) (old new : Devices) : Type 0 where
  pub power_ons : ℕ
  pub one_each : power_ons ≤ turns
  pub told : was + power_ons ≤ is
  pub most : WroteAtMost (unit_most power_ons turns actions) (card_most power_ons turns actions) old new

-- THE POWER-ONS OF A TRACE: one at its begin, one behind each `off` line, and one behind each cut that a failed call
-- made, of which its log tells so many; and no more than it has turns
unfoldable pub power_ons : (start : ℕ) → List Item → (failed : ℕ) → ℕ
power_ons start items failed = min (turns_of start items) (1 + offs items + failed)

-- ---- how many writes a trace begins

-- so many on the unit, where its log tells so many cuts that a failed call made
abbrev pub unit_writes : (start : ℕ) → List Item → (failed : ℕ) → ℕ
unit_writes start items failed =
    unit_most (power_ons start items failed) (turns_of start items) (length (actions_in items))

-- and so many on a card
abbrev pub card_writes : (start : ℕ) → List Item → (failed : ℕ) → ℕ
card_writes start items failed =
    card_most (power_ons start items failed) (turns_of start items) (length (actions_in items))

-- A TRACE begins at most so many writes on each device.
abbrev pub WritesIn : (start : ℕ) → List Item → (failed : ℕ) → (old new : Devices) → Type 0
WritesIn start items failed old new =
    WroteAtMost (unit_writes start items failed) (card_writes start items failed) old new
