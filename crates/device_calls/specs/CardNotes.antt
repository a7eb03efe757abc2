-- An event or a place is noted on a card (profile).
use Rattle.std.specs.Prelude.{◌≡◌, ◌⊎◌, ℕ, List}
use Rattle.tacho_types.specs.declared.places.PlaceEntry.{PlaceEntry}
use Rattle.card_layout.specs.declared.files.Application.{Application}
use Rattle.card_files.specs.declared.card_event.CardEvent.{CardEvent}
use Rattle.card_files.specs.Noting.{IsNotingEvent, IsNotingPlace}
use Rattle.card_validity.specs.card_image.Judging.{IsValid}
use Rattle.card_validity.specs.card_image.Own.{own_sizes}

-- a moment of the note of an event, or of a place
abbrev pub IsNote : Application → List ℕ → List ℕ → Type 0
IsNote app x c = ((e : CardEvent) × IsNotingEvent app e x c) ⊎ ((p : PlaceEntry) × IsNotingPlace app p x c)

-- the card goes by these sizes, and is valid
abbrev pub IsSound : Application → List ℕ → Type 0
IsSound app x = (own_sizes x ≡ app) × IsValid app x
