-- What becomes of a run where a card is accepted or turned away, by value (profile).
use Rattle.std.specs.Prelude.{◌≡◌, ◌⊎◌, ℕ, ◌<◌, ◌≤◌, Bool, true, false, Option, None, Some, IfSome}
use Rattle.activity_codec.specs.declared.values.Slot.{Slot}
use Rattle.trace_model.specs.declared.Card.{Card}
use Rattle.trace_model.specs.declared.Card.TheVariants.{A, B}
use Rattle.tach_media.specs.Medium.{State}
use Rattle.tach_media.specs.card_layout.declared.command.CardState.{CardState}
use Rattle.minute_rules.specs.minute_model.Span.{Span, travelled_of}
use Rattle.minute_rules.specs.Kept.{CountsSpan}
use Rattle.run_acts.specs.message_model.Records.{insertion_ring}
use Rattle.run_minutes.specs.card_slots.declared.seats.Seat.{Seat}
use Rattle.run_acts.specs.run_crew.declared.cards.Accepted.{Accepted}
use Rattle.run_acts.specs.run_crew.Cabin.{with_card_in}
use Rattle.run_minutes.specs.declared.keeper.Moment.{Moment}
use Rattle.run_minutes.specs.Minutes.{odometer_by}
use Rattle.run_outcome.specs.declared.outcome.Outcome.{Outcome}
use Rattle.run_insertion.specs.declared.lines.Entering.{Entering}
use Rattle.run_insertion.specs.Entering.{Way, ending_of, measured}
use Rattle.run_insertion.specs.Entered.{IsLeft}
use Rattle.run_acts.specs.declared.run.Run.{Run}
use Rattle.run_acts.specs.Power.{with_cabin}
use Rattle.run_acts.specs.Acting.{IsSettled}

-- of the states by which two cards answer, the first of them this card's, that of card a
abbrev pub chip_a_of : Card → CardState → CardState → CardState
chip_a_of A mine others = mine
chip_a_of B mine others = others

-- and that of card b
abbrev pub chip_b_of : Card → CardState → CardState → CardState
chip_b_of A mine others = others
chip_b_of B mine others = mine

-- the same of two states: that of card a
abbrev pub a_of : Card → State → State → State
a_of A mine others = mine
a_of B mine others = others

-- and that of card b
abbrev pub b_of : Card → State → State → State
b_of A mine others = others
b_of B mine others = mine

-- the entry of an insertion is one of the ring, and it is one of those that were noted
abbrev pub HasEntry : (noted : ℕ) → Accepted → Type 0
HasEntry noted a = (a.entry < insertion_ring.count) × (a.noted ≤ noted)

-- an odometer value is that of now, by the minutes of a run
abbrev pub IsOdometerNow : Run → (odometer : ℕ) → Type 0
IsOdometerNow run odometer = (span : Span) → CountsSpan run.minutes span
    → odometer ≡ odometer_by run.keeper.odometer (travelled_of span)

-- a card enters now: it is this one, in this slot, at this moment and speed, and the odometer is that of now
pub record IsEnteringNow (slot : Slot) (card : Card) (at : Moment) (speed : ℕ) (run : Run) (e : Entering) : Type 0 where
  pub which : e.which ≡ card
  pub slot_is : e.slot ≡ slot
  pub moment : e.at ≡ at
  pub speed_is : e.speed ≡ speed
  pub odometer : IsOdometerNow run e.odometer.0

-- A CARD WAS ACCEPTED OR TURNED AWAY: of the run the keeper and the number of insertions have changed, and so have the
-- lines, by the way that it entered.
pub record IsAccepted (e : Entering) (old new : Run) (before after : Outcome) : Type 0 where
  pub way : Way
  pub only : new ≡ record old { keeper = new.keeper; noted = new.noted }
  pub left : IsLeft (ending_of way) e (measured way e old.keeper) new.keeper old.noted new.noted before after

-- the card of a slot, if there is one, was accepted or turned away
abbrev pub IsAnew : Option Card → Slot → Moment → (speed : ℕ) → (old new : Run) → (before after : Outcome) → Type 0
IsAnew None slot at speed old new before after = (new ≡ old) × (after ≡ before)
IsAnew (Some card) slot at speed old new before after = (e : Entering) × IsEnteringNow slot card at speed old e
    × IsAccepted e old new before after

-- the card of a slot, if there is one, is not accepted
abbrev pub IsBare : Option Seat → Type 0
IsBare seat = IfSome seat (λ s. s.newest ≡ None)

-- a run into whose slot a card was put
abbrev pub put_run : Slot → Card → Run → Run
put_run slot card run = with_cabin (with_card_in slot card run.keeper.cabin) run

-- A CARD WAS PUT INTO A SLOT: the minutes before are kept, and then it is accepted or turned away.
pub record IsInsertedBehind (slot : Slot) (card : Card) (at : Moment) (speed : ℕ) (old new : Run)
    (before after : Outcome) : Type 0 where
  pub between : Run
  pub told : Outcome
  pub settled_first : IsSettled at false (put_run slot card old) between before told
  pub entering : Entering
  pub now : IsEnteringNow slot card at speed between entering
  pub accepted : IsAccepted entering between new told after

-- or the unit failed as they were kept
abbrev pub IsInserted : Slot → Card → Moment → (speed : ℕ) → (failed : Bool) → (old new : Run)
    → (before after : Outcome) → Type 0
IsInserted slot card at speed failed old new before after =
    ((failed ≡ true) × IsSettled at true (put_run slot card old) new before after)
    ⊎ IsInsertedBehind slot card at speed old new before after
