-- What a card holds of events and places, and what the calls leave that note one.
use Rattle.std.specs.Prelude.{◌≡◌, ◌≢◌, ℕ, ◌<◌, List}
use Rattle.card_layout.specs.declared.files.Application.{Application}
use Rattle.tacho_types.specs.declared.places.PlaceEntry.{PlaceEntry}
use Rattle.tacho_types.specs.Places.{place_bytes}
use Rattle.gated_ring.specs.Ring.{Shape, gate_of, entry_at, number_at}
use Rattle.gated_ring.specs.Earliest.{IsEarliest}
use Rattle.gated_ring.specs.Change.{IsReplaced, IsReplacingEntry, IsAdding, IsAdded}
use Rattle.card_files.specs.declared.card_event.CardEvent.{CardEvent}
use Rattle.card_files.specs.Events.{event_bytes, event_of}
use Rattle.card_files.specs.Rings.{event_ring, place_ring}

-- these bytes are an event of this type with this begin, and it is there
pub record IsEvent (kind begin : ℕ) (bytes : List ℕ) : Type 0 where
  pub there : begin ≢ 0
  pub kind_is : (event_of bytes).kind ≡ kind
  pub begin_is : (event_of bytes).begin.0 ≡ begin

-- an event of this type with this begin stands in the set of its type
abbrev pub HoldsEvent : Application → (kind begin : ℕ) → List ℕ → Type 0
HoldsEvent app kind begin x = (i : ℕ) × (i < app.events) × IsEvent kind begin (entry_at (event_ring app kind) x i)

-- The place that a new entry takes in a ring without a pointer: an empty one, of which the gate is 0, else that of the
-- earliest entry; of several the lowest.
abbrev pub TakesPlace : Shape → List ℕ → ℕ → Type 0
TakesPlace r x i = IsEarliest r.count (λ j. number_at x (gate_of r j) 4) i

-- a moment of the noting of an event: the place that it takes is as it was, or empty, or holds the event
pub record IsNotingEvent (app : Application) (event : CardEvent) (x c : List ℕ) : Type 0 where
  pub place : ℕ
  pub takes : TakesPlace (event_ring app event.kind) x place
  pub entry : IsReplacingEntry (event_ring app event.kind) place (event_bytes event) x c

-- after it: that place holds the event, and every other entry is as it was
pub record IsEventNoted (app : Application) (event : CardEvent) (x y : List ℕ) : Type 0 where
  pub place : ℕ
  pub takes : TakesPlace (event_ring app event.kind) x place
  pub entry : IsReplaced (event_ring app event.kind) place (event_bytes event) x y

-- a moment at which a place entry is added to its ring
abbrev pub IsNotingPlace : Application → PlaceEntry → List ℕ → List ℕ → Type 0
IsNotingPlace app entry = IsAdding (place_ring app) (place_bytes entry)

-- after it: the place entry is added to its ring
abbrev pub IsPlaceNoted : Application → PlaceEntry → List ℕ → List ℕ → Type 0
IsPlaceNoted app entry = IsAdded (place_ring app) (place_bytes entry)
