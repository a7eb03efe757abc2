-- The entries of events with the cards that were accepted (Annex IB, section III.12).
use Rattle.std.specs.Prelude.{◌≡◌, ℕ, Option, Some, None, List, replicate}
use Rattle.trace_model.specs.declared.Card.{Card}
use Rattle.tacho_types.specs.CardNumber.{card_number_bytes}
use Rattle.tacho_types.specs.declared.card_number.FullCardNumber.{FullCardNumber}
use Rattle.tacho_types.specs.declared.texts.Registration.{Registration}
use Rattle.card_files.specs.declared.card_event.CardEvent.{CardEvent}
use Rattle.event_model.specs.Events.{Crew as Cards, Event}
use Rattle.event_model.specs.Kinds.{purpose_of, purpose_number}
use Rattle.note_model.specs.Tables.{number_or_none}
use Rattle.unit_notes.specs.declared.unit_event.UnitEvent.{UnitEvent}
use Rattle.run_crew.specs.declared.cards.Crew.{Crew}

-- the number of no card
abbrev pub no_card : FullCardNumber
no_card = record { kind = 0; state = record { 0 = 0 }; number = replicate 16 0 }

-- a card number, zeros without one
abbrev pub number_or_no_card : Option FullCardNumber → FullCardNumber
number_or_no_card None = no_card
number_or_no_card (Some number) = number

-- an event from one second to another, with the cards at its begin and at its end
abbrev pub entry_of : (kind begin end : ℕ) → (first last : Crew) → UnitEvent
entry_of kind begin end first last = record {
  kind = kind;
  purpose = purpose_number (purpose_of kind);
  begin = record { 0 = begin };
  end = record { 0 = end };
  driver_begin = number_or_no_card first.driver;
  codriver_begin = number_or_no_card first.codriver;
  driver_end = number_or_no_card last.driver;
  codriver_end = number_or_no_card last.codriver;
  similar = 0;
}

-- such an event of a run, with its cards by name
abbrev pub event_of : (kind begin end : ℕ) → (at_begin at_end : Cards) → Event
event_of kind begin end at_begin at_end =
    record { kind = kind; begin = begin; end = end; most = 0; average = 0; at_begin = at_begin; at_end = at_end }

-- these are the numbers of these cards
pub record IsCrewOf (number : Card → List ℕ) (cards : Cards) (crew : Crew) : Type 0 where
  pub driver : card_number_bytes (number_or_no_card crew.driver) ≡ number_or_none number cards.driver
  pub codriver : card_number_bytes (number_or_no_card crew.codriver) ≡ number_or_none number cards.codriver

-- an event of a unit as it stands on a card
abbrev pub card_entry : UnitEvent → Registration → CardEvent
card_entry event registration = record {
  kind = event.kind;
  begin = event.begin;
  end = event.end;
  registration = registration;
}
