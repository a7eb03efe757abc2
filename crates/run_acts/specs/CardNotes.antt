-- What the note of an interruption leaves of the events that the cards show, by value (profile).
use Rattle.std.specs.Prelude.{◌≡◌, ℕ, ◌||◌, Bool, not, Option, Some, None, List, [], ◌∷◌, is_some, if◌then◌else◌}
use Rattle.trace_model.specs.declared.Card.{Card}
use Rattle.tach_media.specs.Medium.{State}
use Rattle.tacho_types.specs.declared.texts.Registration.{Registration}
use Rattle.hand_model.specs.card_image.Beside.{HaveSameDays, HaveSameVehicles}
use Rattle.hand_model.specs.card_image.Fields.{file_bytes, current_use}
use Rattle.card_files.specs.declared.card_event.CardEvent.{CardEvent}
use Rattle.unit_notes.specs.event_model.declared.entries.Span.{Span}
use Rattle.unit_notes.specs.event_model.declared.kinds.TheConstants.{POWER_INTERRUPTION}
use Rattle.device_calls.specs.safety_model.Safe.{Devices, card_of}
use Rattle.run_crew.specs.card_slots.declared.seats.Seat.{Seat}
use Rattle.run_crew.specs.card_slots.Calls.{is_card}
use Rattle.run_crew.specs.declared.cards.Accepted.{Accepted}
use Rattle.run_crew.specs.declared.cards.Cards.{Cards}
use Rattle.run_crew.specs.Cards.{session_of}
use Rattle.run_insertion.specs.CardEvents.{NotesOnCard}

-- A CARD BEHIND SOME NOTES: without a session it may leave no image that it might not have left before; else these
-- events are noted on it, and where the unit failed, or it has fallen, they may have been cut short.
abbrev pub NotesOn : (failed : Bool) → (session after : Option Accepted) → List CardEvent → (card card_after : State)
    → Type 0
NotesOn failed None after events card card_after = (c : List ℕ) → card_after.may_leave c → card.may_leave c
NotesOn failed (Some a) after events card card_after = NotesOnCard a.session.application events
    (failed || not (is_some after)) card card_after

-- so is each card
abbrev pub NotesOnCards : (failed : Bool) → (cards after : Cards) → (events : Card → List CardEvent) → (d e : Devices)
    → Type 0
NotesOnCards failed cards after events d e = (card : Card)
    → NotesOn failed (session_of cards card) (session_of after card) (events card) (card_of d card) (card_of e card)

-- an event on the card of a seat alone
abbrev pub on_seat : Option Seat → CardEvent → Card → List CardEvent
on_seat seat event card = if is_card seat card then event ∷ [] else []

-- an interruption of power as a card has it, if there was one
abbrev pub gap_on : Option Span → Registration → List CardEvent
gap_on None registration = []
gap_on (Some span) registration = record {
  kind = POWER_INTERRUPTION;
  begin = record { 0 = span.begin };
  end = record { 0 = span.end };
  registration = registration;
} ∷ []

-- ---- the places

-- CALLS LEAVE THE PLACES of a card, its vehicle entries, its current use and its days: without a session it may leave
-- no image that it might not have left before; else each has those of one before
abbrev pub LeavesPlaces : (session : Option Accepted) → (card card_after : State) → Type 0
LeavesPlaces None card card_after = (c : List ℕ) → card_after.may_leave c → card.may_leave c
LeavesPlaces (Some a) card card_after = (c : List ℕ) → card_after.may_leave c
    → (x : List ℕ) × card.may_leave x
    × (file_bytes a.session.application 0x0506 c ≡ file_bytes a.session.application 0x0506 x)
    × HaveSameVehicles a.session.application x c
    × (current_use a.session.application c ≡ current_use a.session.application x)
    × HaveSameDays a.session.application x c

-- so they do of each card
abbrev pub LeavePlaces : Cards → (d e : Devices) → Type 0
LeavePlaces cards d e = (card : Card) → LeavesPlaces (session_of cards card) (card_of d card) (card_of e card)
