-- The seconds of a span as they are watched, with the numbers of the cards that are accepted in them (Annex IB, section
-- III.12).
use Rattle.std.specs.Prelude.{ℕ, option_map, List, [], ◌∷◌}
use Rattle.trace_model.specs.declared.Card.{Card}
use Rattle.tacho_types.specs.CardNumber.{card_number_bytes}
use Rattle.tacho_types.specs.declared.card_number.FullCardNumber.{FullCardNumber}
use Rattle.event_model.specs.declared.kinds.TheConstants.{DRIVING_WITHOUT_CARD}
use Rattle.event_model.specs.Events.{Crew as Cards, Event, Seen, crew_of}
use Rattle.unit_notes.specs.Fields.{IsEventOf, IsOverOf}
use Rattle.run_crew.specs.declared.cards.Crew.{Crew}
use Rattle.run_events.specs.Entries.{number_or_no_card, entry_of}
use Rattle.run_events.specs.Watching.{CrewSecond, BareWith, OverWith}

-- the numbers of these cards
abbrev pub named : (Card → FullCardNumber) → Cards → Crew
named number cards = record { driver = option_map number cards.driver; codriver = option_map number cards.codriver }

-- a second as it is watched
abbrev pub watched : (Card → FullCardNumber) → Seen → CrewSecond
watched number x = record {
  number = x.told.second.number;
  speed = x.told.second.speed;
  crew = named number (crew_of x.itself);
}

-- the bytes of a card's number
abbrev pub number_bytes : (Card → FullCardNumber) → Card → List ℕ
number_bytes number card = card_number_bytes (number card)

-- what is noted of driving without a card is this event
abbrev pub IsBareOf : (Card → FullCardNumber) → Event → BareWith → Type 0
IsBareOf number e b = IsEventOf (number_bytes number) e
    (entry_of DRIVING_WITHOUT_CARD b.span.begin b.span.end b.begin b.end)

-- what is noted of an over speeding is this event
abbrev pub IsFastOf : (Card → FullCardNumber) → Event → OverWith → Type 0
IsFastOf number e o = IsOverOf (number_bytes number) e o.over (number_or_no_card o.begin.driver)

-- two lists are related one for one
abbrev pub ArePairs : {A B : Type 0} → (A → B → Type 0) → List A → List B → Type 0
ArePairs R [] [] = Unit {0}
ArePairs R [] (b ∷ bs) = ⊥
ArePairs R (a ∷ rest) [] = ⊥
ArePairs R (a ∷ rest) (b ∷ bs) = R a b × ArePairs R rest bs
