-- What is kept of the calls on the two slots.
use Rattle.std.specs.Prelude.{◌≡◌, ◌⊎◌, ℕ, ◌+◌, ◌/◌, ◌≤◌, ◌<◌, Bool, true, false, Option, Some, None, IfSome, List, []}
use Rattle.std.specs.Prelude.{◌∷◌, nat_eq, take, All}
use Rattle.activity_codec.specs.declared.values.Slot.{Slot}
use Rattle.activity_codec.specs.declared.values.Slot.TheVariants.{Driver, CoDriver}
use Rattle.trace_model.specs.declared.Card.{Card}
use Rattle.trace_model.specs.declared.Card.TheVariants.{A, B}
use Rattle.log_model.specs.Slots.{other_slot}
use Rattle.card_slots.specs.declared.seats.Seat.{Seat}
use Rattle.card_slots.specs.declared.seats.Ended.{Ended}
use Rattle.card_slots.specs.declared.seats.Present.{Present}
use Rattle.card_slots.specs.declared.seats.Lefts.{Lefts}
use Rattle.card_slots.specs.Calls.{SlotCall, Seats, Table, seat_in, with_seat, is_card, powerless, has_left, ending}
use Rattle.card_slots.specs.Calls.{table_of}

-- the minute before which no call speaks any more, the slots, the minute of each card's last leaving, and the last four
-- minutes that ended, the newest first
pub record Kept : Type 0 where
  pub minute : ℕ
  pub seats : Seats
  pub left : Lefts
  pub past : List Ended

-- a minute is told, and is this one
abbrev pub is_minute : Option ℕ → ℕ → Bool
is_minute None minute = false
is_minute (Some left) minute = nat_eq left minute

-- a card last left in this minute
abbrev pub left_in : Lefts → Card → ℕ → Bool
left_in left A minute = is_minute left.a minute
left_in left B minute = is_minute left.b minute

-- the card of a slot leaves in a minute
abbrev pub with_left : ℕ → Option Seat → Lefts → Lefts
with_left minute None left = left
with_left minute (Some seat) left = leaves seat.card
  where
    leaves : Card → Lefts
    leaves A = record left { a = Some minute }
    leaves B = record left { b = Some minute }

-- what is kept before the first call
abbrev pub nothing_yet : Kept
nothing_yet = record {
  minute = 0;
  seats = record { driver = None; codriver = None };
  left = record { a = None; b = None };
  past = [];
}

-- a slot is empty, or holds this card, not accepted; the other one does not hold it
pub record IsFree (seats : Seats) (slot : Slot) (card : Card) : Type 0 where
  pub here : (seat_in seats slot ≡ None) ⊎ (seat_in seats slot ≡ Some (record { card = card; newest = None }))
  pub elsewhere : is_card (seat_in seats (other_slot slot)) card ≡ false

-- after a card is put into a slot
abbrev pub put_in : Slot → Card → Option ℕ → Kept → Kept
put_in slot card newest kept = record kept {
  seats = with_seat kept.seats slot
      (Some (record { card = card; newest = newest }));
}

-- after the card of a slot is taken out
abbrev pub taken : Slot → ℕ → Kept → Kept
taken slot second kept = record {
  minute = second / 60;
  seats = with_seat kept.seats slot None;
  left = with_left (second / 60) (seat_in kept.seats slot) kept.left;
  past = kept.past;
}

-- after power is lost
abbrev pub cut_off : ℕ → Kept → Kept
cut_off second kept = record {
  minute = second / 60;
  seats = record { driver = powerless kept.seats.driver; codriver = powerless kept.seats.codriver };
  left = with_left (second / 60) kept.seats.codriver (with_left (second / 60) kept.seats.driver kept.left);
  past = kept.past;
}

-- after a minute ended
abbrev pub minute_ended : ℕ → Kept → Kept
minute_ended minute kept = record {
  minute = minute + 1;
  seats = kept.seats;
  left = kept.left;
  past = ending (left_in kept.left) minute kept.seats ∷ take 3 kept.past;
}

-- from a minute on, what is kept tells which card left when; and no card left in a later minute
pub record TellsLeft (minute : ℕ) (left : Lefts) (all : List (Card × ℕ)) : Type 0 where
  pub same : (card : Card) (m : ℕ) → minute ≤ m → left_in left card m ≡ has_left all card m
  pub most : (card : Card) (m : ℕ) → left_in left card m ≡ true → m ≤ minute

-- this stands for what the calls leave
pub record SlotsAre (kept : Kept) (table : Table) : Type 0 where
  pub minute : kept.minute ≡ table.minute
  pub seats : kept.seats ≡ table.seats
  pub left : TellsLeft kept.minute kept.left table.left
  pub past : kept.past ≡ take 4 table.ended

-- this stands for these calls so far
pub record SlotsRemember (kept : Kept) (calls : List SlotCall) : Type 0 where
  pub holds : SlotsAre kept (table_of calls)

-- the minute in which a card last left a slot or lost power
abbrev pub left_of : Lefts → Card → Option ℕ
left_of left A = left.a
left_of left B = left.b

-- A card that was present in a slot in a minute, and did not leave since, sits there, and its newest minute at its
-- acceptance was earlier.
abbrev pub SitsSince : Kept → Slot → (minute : ℕ) → Option Card → Type 0
SitsSince kept slot minute None = Unit {0}
SitsSince kept slot minute (Some card) =
    IfSome (left_of kept.left card) (λ left. left ≤ minute)
    → (newest : ℕ) × (seat_in kept.seats slot ≡ Some (record { card = card; newest = Some newest })) × (newest < minute)

-- the cards that were present in a minute sit so
pub record SitStill (kept : Kept) (minute : ℕ) (present : Present) : Type 0 where
  pub driver : SitsSince kept Driver minute present.driver
  pub codriver : SitsSince kept CoDriver minute present.codriver

-- the minutes that are kept are over, and the cards that were present in them sit so
pub record KnowsNewest (kept : Kept) : Type 0 where
  pub over : All (λ e. e.minute < kept.minute) kept.past
  pub sit : All (λ e. SitStill kept e.minute e.present) kept.past
