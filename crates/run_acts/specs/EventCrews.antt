-- The numbers of the cards in the slots, by what a run tells of these (profile).
use Rattle.std.specs.Prelude.{◌≡◌, ℕ, ◌^◌, ◌<◌, true, None, Some, Option, List, [], ◌∷◌, is_some}
use Rattle.activity_codec.specs.declared.values.Slot.{Slot}
use Rattle.trace_model.specs.declared.Card.{Card}
use Rattle.tacho_types.specs.CardNumber.{card_number_bytes}
use Rattle.tacho_types.specs.declared.card_number.FullCardNumber.{FullCardNumber}
use Rattle.run_events.specs.Watched.{named}
use Rattle.log_model.specs.Slots.{Slots}
use Rattle.log_model.specs.Course.{ToldSecond}
use Rattle.device_calls.specs.history_model.Minutes.{HistoryMinute}
use Rattle.device_calls.specs.history_model.Presence.{Start}
use Rattle.unit_notes.specs.event_model.declared.kinds.TheConstants.{CARD_FAULT}
use Rattle.unit_notes.specs.event_model.Events as events
use Rattle.unit_notes.specs.event_model.Events.{Event, noted_with}
use Rattle.hand_model.specs.card_image.Own.{IsOwnValid}
use Rattle.run_events.specs.run_course.Presence.{SlotsTell}
use Rattle.run_crew.specs.card_slots.Calls.{seat_in, is_card}
use Rattle.run_crew.specs.declared.cabin.Cabin.{Cabin}
use Rattle.run_crew.specs.declared.cards.Cards.{Cards}
use Rattle.run_crew.specs.Cards.{known_of, session_of}
use Rattle.run_crew.specs.Cabin.{CabinIsSound, torn_out, crew_of}
use Rattle.run_events.specs.Entries.{number_or_no_card, IsCrewOf}
use Rattle.run_minutes.specs.run_promise.Found.{Found, found_of}
use Rattle.run_minutes.specs.run_devices.Told.{AreFoundCards}
use Rattle.run_minutes.specs.Keeping.{Fate, Still, Has, Fell}
use Rattle.run_minutes.specs.Faults.{faults_by}
use Rattle.run_acts.specs.NotedEvents.{AreTold}

-- each card that has a session is known by its number
abbrev pub AreKnownBy : (Card → List ℕ) → Cards → Type 0
AreKnownBy number cards = (c : Card) → is_some (session_of cards c) ≡ true
    → card_number_bytes (number_or_no_card (known_of cards c).number) ≡ number c

-- THE CARDS OF A MOMENT ARE NAMED: the numbers that the slots give are those of the accepted cards that the run has in
-- them.
abbrev pub CardsAreNamed : Type 0
CardsAreNamed = (number : Card → List ℕ) (start : Start) (told : List ToldSecond) (past : List HistoryMinute)
    (left : List Card) (u from low : ℕ) (leaving : Option Card) (slots : Slots) (cabin : Cabin) →
    CabinIsSound low leaving cabin → SlotsTell start told past left u from slots cabin.slots
    → AreKnownBy number cabin.cards → IsCrewOf number (events.crew_of slots) (crew_of cabin)

-- Where each card that has a session is known by this number, the crew are these cards.
abbrev pub AreKnownAs : (Card → FullCardNumber) → Cards → Type 0
AreKnownAs number cards = (c : Card) → is_some (session_of cards c) ≡ true → (known_of cards c).number ≡ Some (number c)

-- THE CREW BY THE CABIN is the crew by the slots of the log, each card by its number.
abbrev pub CrewIsNamed : Type 0
CrewIsNamed = (number : Card → FullCardNumber) (start : Start) (told : List ToldSecond) (past : List HistoryMinute)
    (left : List Card) (u from low : ℕ) (leaving : Option Card) (slots : Slots) (cabin : Cabin) →
    CabinIsSound low leaving cabin → SlotsTell start told past left u from slots cabin.slots
    → AreKnownAs number cabin.cards → crew_of cabin ≡ named number (events.crew_of slots)

-- So they are behind the tear of the card of a slot, without that.
abbrev pub CardsAreNamedBehind : Type 0
CardsAreNamedBehind = (number : Card → List ℕ) (start : Start) (told : List ToldSecond) (past : List HistoryMinute)
    (left : List Card) (u from low : ℕ) (leaving : Option Card) (slots : Slots) (cabin : Cabin) →
    CabinIsSound low leaving cabin → SlotsTell start told past left u from slots cabin.slots
    → AreKnownBy number cabin.cards → (slot : Slot) (card : Card)
    → is_card (seat_in cabin.slots.seats slot) card ≡ true → (second : ℕ) →
    IsCrewOf number (events.with_card slot None (events.crew_of slots)) (crew_of (torn_out card second cabin))

-- WHO HAS A SESSION IS KNOWN: cards with sessions were found valid, and the numbers found are these.
abbrev pub SessionsAreKnown : Type 0
SessionsAreKnown = (f : Found) (number : Card → List ℕ) (cards : Cards) → AreFoundCards f cards
    → ((c : Card) → is_some (session_of cards c) ≡ true → IsOwnValid (found_of f c).image) →
    ((c : Card) → IsOwnValid (found_of f c).image → (found_of f c).number ≡ number c) → AreKnownBy number cards

-- the fault of a card that was torn out, where one was, with the cards that are left
abbrev pub fault_events : Fate → (second : ℕ) → events.Crew → List Event
fault_events Still second crew = []
fault_events (Has accepted clock) second crew = []
fault_events Fell second crew = noted_with CARD_FAULT second second crew ∷ []

-- what is noted of an entry tells it
abbrev pub FaultsAreTold : Type 0
FaultsAreTold = (number : Card → List ℕ) (fate : Fate) (second : ℕ) (cabin : Cabin) (crew : events.Crew)
    → second < 2 ^ 32 → IsCrewOf number crew (crew_of cabin)
    → AreTold number (faults_by fate second cabin) (fault_events fate second crew)
