-- Which card is in which slot with which session (profile).
use Rattle.std.specs.Prelude.{◌≡◌, ◌⊎◌, ℕ, ◌+◌, ◌<◌, ◌≤◌, true, false, Option, Some, None, Result, IfSome, All}
use Rattle.std.specs.Prelude.{[], length, is_some, slice_get, if◌then◌else◌}
use Rattle.activity_codec.specs.declared.values.Slot.{Slot}
use Rattle.activity_codec.specs.declared.values.Slot.TheVariants.{Driver, CoDriver}
use Rattle.trace_model.specs.declared.Card.{Card}
use Rattle.trace_model.specs.declared.Card.TheVariants.{A, B}
use Rattle.card_layout.specs.declared.files.Application.{Application}
use Rattle.tacho_types.specs.declared.card_number.FullCardNumber.{FullCardNumber}
use Rattle.hand_model.specs.Holding.{LieBetween}
use Rattle.log_model.specs.Slots.{same_card}
use Rattle.card_slots.specs.declared.seats.Seat.{Seat}
use Rattle.card_slots.specs.declared.seats.Ended.{Ended}
use Rattle.card_slots.specs.declared.seats.Present.{Present}
use Rattle.card_slots.specs.Calls.{Seats, card_in, is_card}
use Rattle.card_slots.specs.Kept.{Kept, KnowsNewest, put_in, taken, cut_off, minute_ended}
use Rattle.run_crew.specs.declared.cards.Accepted.{Accepted}
use Rattle.run_crew.specs.declared.cards.Cards.{Cards}
use Rattle.run_crew.specs.declared.cards.Crew.{Crew}
use Rattle.run_crew.specs.declared.cabin.Cabin.{Cabin}
use Rattle.run_crew.specs.Cards.{known_of, session_of, with_session, with_number, with_sizes, accepted_number, IsKnown}

-- ---- what the calls leave

-- a card is put into a slot, and is not accepted yet
abbrev pub with_card_in : Slot → Card → Cabin → Cabin
with_card_in slot card cabin = record cabin { slots = put_in slot card None cabin.slots }

-- it is accepted there with this session, has told this number, and this row of the unit is begun for it
abbrev pub with_accepted : Slot → Card → FullCardNumber → (row : ℕ) → Accepted → Cabin → Cabin
with_accepted slot card number row accepted cabin = record {
  slots = put_in slot card (Some accepted.session.minute) cabin.slots;
  cards = with_session card (Some accepted) (with_number card number row cabin.cards);
}

-- a card has told these sizes, or a bad field
abbrev pub with_sizes_of : Card → Result Application ℕ → Cabin → Cabin
with_sizes_of card sizes cabin = record cabin { cards = with_sizes card sizes cabin.cards }

-- the card of a slot leaves it in a second, and has its session still
abbrev pub with_slot_left : Slot → (second : ℕ) → Cabin → Cabin
with_slot_left slot second cabin = record cabin { slots = taken slot second cabin.slots }

-- a card of the cabin has this session, or none
abbrev pub with_session_of : Card → Option Accepted → Cabin → Cabin
with_session_of card session cabin = record cabin { cards = with_session card session cabin.cards }

-- the slot that a card sits in
abbrev pub slot_with : Seats → Card → Option Slot
slot_with seats card = if is_card seats.driver card then Some Driver
    else (if is_card seats.codriver card then Some CoDriver else None)

-- the card of this slot, if it is one, leaves it in a second
abbrev pub left_from : Option Slot → (second : ℕ) → Kept → Kept
left_from None second slots = slots
left_from (Some slot) second slots = taken slot second slots

-- a card is torn out in a second: it leaves its slot, if it sits in one, and has no session any more
abbrev pub torn_out : Card → (second : ℕ) → Cabin → Cabin
torn_out card second cabin = record {
  slots = left_from (slot_with cabin.slots.seats card) second cabin.slots;
  cards = with_session card None cabin.cards;
}

-- power is lost in a second: the cards stay in their slots, and none is accepted any more
abbrev pub with_power_lost : (second : ℕ) → Cabin → Cabin
with_power_lost second cabin = record {
  slots = cut_off second cabin.slots;
  cards = with_session B None (with_session A None cabin.cards);
}

-- a minute has ended
abbrev pub with_minute_ended : ℕ → Cabin → Cabin
with_minute_ended minute cabin = record cabin { slots = minute_ended minute cabin.slots }

-- the number of the accepted card in a slot
abbrev pub number_of_seat : Cards → Option Seat → Option FullCardNumber
number_of_seat cards None = None
number_of_seat cards (Some seat) = accepted_number (known_of cards seat.card)

-- the numbers of the accepted cards in both slots
abbrev pub crew_of : Cabin → Crew
crew_of cabin = record {
  driver = number_of_seat cabin.cards cabin.slots.seats.driver;
  codriver = number_of_seat cabin.cards cabin.slots.seats.codriver;
}

-- ---- how slots and sessions go together

-- A card in a slot has a session exactly where it is accepted. The newest minute of that is the one that it answered,
-- or one of the minutes before `from`, which it has kept since.
abbrev pub AnswersTo : (from : ℕ) → Option ℕ → Option Accepted → Type 0
AnswersTo from None None = Unit {0}
AnswersTo from None (Some accepted) = ⊥
AnswersTo from (Some newest) None = ⊥
AnswersTo from (Some newest) (Some accepted) = (accepted.session.minute ≤ newest) ⊎ (accepted.session.minute < from)

-- so it is of the card that sits in a slot, if one does
abbrev pub SeatAnswers : (from : ℕ) → Cards → Option Seat → Type 0
SeatAnswers from cards None = Unit {0}
SeatAnswers from cards (Some seat) = AnswersTo from seat.newest (session_of cards seat.card)

-- two cards are not one, where there are two
abbrev pub AreTwo : Option Card → Option Card → Type 0
AreTwo None other = Unit {0}
AreTwo (Some card) None = Unit {0}
AreTwo (Some card) (Some other) = same_card card other ≡ false

-- the session of a card that was present, if it has one, can keep this minute: its newest one is earlier
abbrev pub IsBehind : Cards → (minute : ℕ) → Option Card → Type 0
IsBehind cards minute present = IfSome present (λ card. IfSome (session_of cards card) (λ a. a.session.minute < minute))

-- WHAT A SESSION HOLDS of entries by hand: none once it has kept a minute; else at most eight, which lie behind its
-- newest minute and before that of its insertion, and no minute that may come to be kept, from this one on, is earlier
-- than the insertion's
abbrev pub HoldsBy : (from : ℕ) → (begun : Option ℕ) → Accepted → Type 0
HoldsBy from (Some first) a = a.held.entries ≡ []
HoldsBy from None a = (a.held.inserted ≤ from) × (length a.held.entries ≤ 8)
    × ((a.held.entries ≡ []) ⊎ LieBetween a.session.minute a.held.inserted a.held.entries)

-- so it is of a session by its own first minute
abbrev pub HoldsHands : (from : ℕ) → Accepted → Type 0
HoldsHands from a = HoldsBy from a.held.begun a

-- a session can keep a minute: its newest one is earlier, and the entries by hand that it holds, at most eight, lie
-- between the two; none is held once it has kept one
pub record MayKeepAt (minute : ℕ) (a : Accepted) : Type 0 where
  pub lie : LieBetween a.session.minute minute a.held.entries
  pub few : length a.held.entries ≤ 8
  pub once : (first : ℕ) → a.held.begun ≡ Some first → a.held.entries ≡ []

-- so can that of a card that was present, if it has one
abbrev pub CanKeepNext : Cards → (minute : ℕ) → Option Card → Type 0
CanKeepNext cards minute present = IfSome present (λ card. IfSome (session_of cards card) (MayKeepAt minute))

-- a minute that has ended: its cards are two, and can keep it where it is none of those before `from`
pub record EndedStands (from before : ℕ) (cards : Cards) (ended : Ended) : Type 0 where
  pub over : ended.minute < before
  pub driver : from ≤ ended.minute → IsBehind cards ended.minute ended.present.driver
  pub codriver : from ≤ ended.minute → IsBehind cards ended.minute ended.present.codriver
  pub apart : AreTwo ended.present.driver ended.present.codriver

-- a card sits in one of the slots
abbrev pub SitsThere : Seats → Card → Type 0
SitsThere seats card = (is_card seats.driver card ≡ true) ⊎ (is_card seats.codriver card ≡ true)

-- a card sits in neither slot
pub record SitsNowhere (seats : Seats) (card : Card) : Type 0 where
  pub driver : is_card seats.driver card ≡ false
  pub codriver : is_card seats.codriver card ≡ false

-- The slots and the sessions between two calls, where the minutes before `from` are kept or not to be kept any more. A
-- card may be leaving: it has left its slot, and its session is not closed yet.
pub record CabinIsSound (from : ℕ) (leaving : Option Card) (cabin : Cabin) : Type 0 where
  pub a : IsKnown cabin.cards.a
  pub b : IsKnown cabin.cards.b
  pub driver : SeatAnswers from cabin.cards cabin.slots.seats.driver
  pub codriver : SeatAnswers from cabin.cards cabin.slots.seats.codriver
  pub apart : AreTwo (card_in cabin.slots.seats.driver) (card_in cabin.slots.seats.codriver)
  pub only : (card : Card) → is_some (session_of cabin.cards card) ≡ true
      → SitsThere cabin.slots.seats card ⊎ (leaving ≡ Some card)
  pub left : IfSome leaving (SitsNowhere cabin.slots.seats)
  pub past : All (EndedStands from cabin.slots.minute cabin.cards) cabin.slots.past
  pub newest : KnowsNewest cabin.slots
  pub hands : (card : Card) → IfSome (session_of cabin.cards card) (HoldsHands from)

-- The minutes from `from` on and before `to` have ended one after the other, and are the newest that are kept.
pub record KnowsEnded (from to : ℕ) (slots : Kept) : Type 0 where
  pub few : to ≤ from + 4
  pub each : (k : ℕ) → k + from < to
      → (ended : Ended) × (slice_get slots.past k ≡ Some ended) × (ended.minute + k + 1 ≡ to)

-- who was present in a minute: two cards at most, and each that has a session can keep it
pub record MayBeKept (cards : Cards) (minute : ℕ) (present : Present) : Type 0 where
  pub driver : CanKeepNext cards minute present.driver
  pub codriver : CanKeepNext cards minute present.codriver
  pub apart : AreTwo present.driver present.codriver
