-- What an action of a second does, by value (profile).
use Rattle.std.specs.Prelude.{◌≡◌, ℕ, ◌+◌, Bool, true, false, Option, Some, None, List, [], ◌∷◌, min}
use Rattle.trace_model.specs.declared.Action.{Action}
use Rattle.trace_model.specs.declared.Action.TheVariants.{Select, Insert, Withdraw, Tear, Place, Manual}
use Rattle.trace_model.specs.declared.Item.{Item}
use Rattle.trace_model.specs.declared.Item.TheVariants.{Run as Driven, Off, Act}
use Rattle.minute_rules.specs.minute_model.Span.{Span, picked}
use Rattle.minute_rules.specs.Kept.{CountsSpan}
use Rattle.log_model.specs.declared.lines.Refused.{Refused}
use Rattle.log_model.specs.declared.lines.SlotFault.{SlotFault}
use Rattle.log_model.specs.declared.lines.SlotFault.TheVariants.{NoPower}
use Rattle.run_minutes.specs.card_slots.Calls.{seat_in, card_in}
use Rattle.run_outcome.specs.declared.outcome.Outcome.{Outcome}
use Rattle.run_minutes.specs.declared.keeper.Moment.{Moment}
use Rattle.run_minutes.specs.Keeping.{with_lines}
use Rattle.run_acts.specs.ByHand.{entered_run, stopped_in}
use Rattle.run_acts.specs.declared.run.Run.{Run}
use Rattle.run_acts.specs.Power.{is_lit, cut_run}
use Rattle.run_acts.specs.Going.{largest_number}
use Rattle.run_acts.specs.Acting.{IsWithdrawn, IsPlaced, pulled_run, pulled_breaks}
pub use Rattle.run_acts.specs.Turning.{cut_breaks}
use Rattle.recorder_with_cards.specs.Accepting.{IsInserted}

-- a card is put into a slot
abbrev pub put_count : Action → ℕ
put_count (Select slot pick) = 0
put_count (Insert slot card) = 1
put_count (Withdraw slot) = 0
put_count (Tear slot) = 0
put_count (Place slot ending country region) = 0
put_count (Manual slot pick minute) = 0

-- the line of a refusal, where there is one
abbrev pub refusal_lines : Option SlotFault → (second begun : ℕ) → List Refused
refusal_lines None second begun = []
refusal_lines (Some fault) second begun = record { second = second; fault = fault; begun = begun } ∷ []

-- THE REFUSALS of an action: each in a second without power; none in one in which power was lost; else what slots and
-- speed refuse, or the session that is to hold an entry by hand
abbrev pub refused_by : (has_power lit : Bool) → Run → (speed : ℕ) → Action → Option SlotFault
refused_by false lit run speed action = Some NoPower
refused_by true false run speed action = None
refused_by true true run speed action = stopped_in run speed action

-- of a selection: nothing but the minutes has changed, which have one selection more for the next second
abbrev pub IsSelected : Action → (old new : Run) → Type 0
IsSelected (Select slot pick) old new = (new ≡ record old { minutes = new.minutes })
    × ((span : Span) → CountsSpan old.minutes span → CountsSpan new.minutes (picked span slot pick))
IsSelected (Insert slot card) old new = Unit {0}
IsSelected (Withdraw slot) old new = Unit {0}
IsSelected (Tear slot) old new = Unit {0}
IsSelected (Place slot ending country region) old new = Unit {0}
IsSelected (Manual slot pick minute) old new = Unit {0}

-- a selection and an entry by hand call no device, so that they do not fail
abbrev pub IsFine : Action → (failed : Bool) → Type 0
IsFine (Select slot pick) failed = failed ≡ false
IsFine (Insert slot card) failed = Unit {0}
IsFine (Withdraw slot) failed = Unit {0}
IsFine (Tear slot) failed = Unit {0}
IsFine (Place slot ending country region) failed = Unit {0}
IsFine (Manual slot pick minute) failed = failed ≡ false

-- it is the same second still, with power
pub record StaysIn (old new : Run) : Type 0 where
  pub power : new.power ≡ old.power
  pub next : new.next ≡ old.next
  pub begun : new.begun ≡ old.begun
  pub unfound : new.unfound ≡ old.unfound

-- the begin of the next second, once so many of its actions have begun
abbrev pub moment_of : (begun : ℕ) → Run → Moment
moment_of begun run = record { second = run.next; begun = begun; late = false }

-- AN ACTION IS CARRIED OUT at a moment: a selection changes the minutes alone; a card is put in, withdrawn or pulled
-- out; a place is noted; an entry by hand that is not refused is held by the session of the slot's card, and nothing
-- else changes
abbrev pub IsDone : Action → Moment → (speed : ℕ) → (failed : Bool) → (old new : Run) → (before after : Outcome)
    → Type 0
IsDone (Select slot pick) at speed failed old new before after = (failed ≡ false)
    × IsSelected (Select slot pick) old new × (after ≡ before)
IsDone (Insert slot card) at speed failed old new before after = IsInserted slot card at speed failed old new before
    after
IsDone (Withdraw slot) at speed failed old new before after = IsWithdrawn
    (card_in (seat_in old.keeper.cabin.slots.seats slot)) slot at failed old new before after
IsDone (Tear slot) at speed failed old new before after = let card = card_in (seat_in old.keeper.cabin.slots.seats slot)
    in
    (failed ≡ false) × (new ≡ pulled_run card at.second old)
    × (after ≡ record before { breaks = with_lines (pulled_breaks card slot at) before.breaks })
IsDone (Place slot ending country region) at speed failed old new before after =
    (fell : Bool) × IsPlaced (card_in (seat_in old.keeper.cabin.slots.seats slot)) slot at old new before.breaks
    after.breaks fell × (after ≡ record before { breaks = after.breaks })
IsDone (Manual slot pick minute) at speed failed old new before after = (failed ≡ false)
    × (new ≡ entered_run slot pick minute old) × (after ≡ before)

-- the run behind an action: where the unit failed in it, power was lost in its second
abbrev pub cut_where : (failed : Bool) → Run → Run
cut_where false run = run
cut_where true run = cut_run run.next run

-- AN ACTION IS CARRIED OUT: it did what it does; where the unit failed in it power is lost, and told so.
pub record IsCarriedOut (action : Action) (begun speed : ℕ) (old new : Run) (before after : Outcome) : Type 0 where
  pub failed : Bool
  pub between : Run
  pub told : Outcome
  pub done : IsDone action (moment_of begun old) speed failed old between before told
  pub run : new ≡ cut_where failed between
  pub outcome : after ≡ cut_breaks failed between.next begun told

-- one that is refused is told so, and changes nothing else
abbrev pub IsActedBy : Option SlotFault → Action → (begun speed : ℕ) → (old new : Run) → (before after : Outcome)
    → Type 0
IsActedBy None action begun speed old new before after = IsCarriedOut action begun speed old new before after
IsActedBy (Some fault) action begun speed old new before after = (new ≡ old)
    × (after ≡ record before {
      refused = with_lines (record { second = old.next; fault = fault; begun = begun } ∷ [])
          before.refused;
    })

-- AN ACTION of a second: refused without power; passed over where power was lost in the second; else refused by slots
-- and speed or, if it is an entry by hand, by the session of the slot's card, or carried out
abbrev pub IsActed : (has_power lit : Bool) → Action → (begun speed : ℕ) → (old new : Run) → (before after : Outcome)
    → Type 0
IsActed false lit action begun speed old new before after = IsActedBy (Some NoPower) action begun speed old new before
    after
IsActed true false action begun speed old new before after = (new ≡ old) × (after ≡ before)
IsActed true true action begun speed old new before after = IsActedBy (stopped_in old speed action) action begun speed
    old new before after

-- an item of a second
abbrev pub IsItemActed : Item → (has_power lit : Bool) → (begun speed : ℕ) → (old new : Run) → (before after : Outcome)
    → Type 0
IsItemActed (Driven seconds driven) has_power lit begun speed old new before after = (new ≡ old) × (after ≡ before)
IsItemActed (Off seconds) has_power lit begun speed old new before after = (new ≡ old) × (after ≡ before)
IsItemActed (Act action) has_power lit begun speed old new before after = IsActed has_power lit action begun speed old
    new before after

-- THE ACTIONS of a second, one after another, behind so many before them
abbrev pub AreActed : (has_power : Bool) → (speed number : ℕ) → List Item → (old new : Run) → (before after : Outcome)
    → Type 0
AreActed has_power speed number [] old new before after = (new ≡ old) × (after ≡ before)
AreActed has_power speed number (item ∷ items) old new before after = (mid : Run) × (told : Outcome)
    × IsItemActed item has_power (is_lit old.power) (min (number + 1) largest_number) speed old mid before told
    × AreActed has_power speed (number + 1) items mid new told after

-- no device is called: it is refused, or a selection, or a card is pulled out, or an entry by hand
abbrev pub CallsNone : Option SlotFault → Action → Type 0
CallsNone None (Select slot pick) = Unit {0}
CallsNone None (Insert slot card) = ⊥
CallsNone None (Withdraw slot) = ⊥
CallsNone None (Tear slot) = Unit {0}
CallsNone None (Place slot ending country region) = ⊥
CallsNone None (Manual slot pick minute) = Unit {0}
CallsNone (Some fault) action = Unit {0}
