-- What a run with cards leaves as it was (profile): a ring of the unit that is dense, the holder of a card with all
-- that no call writes, and of which vehicles it tells.
use Rattle.std.specs.Prelude.{List, ℕ}
use Rattle.trace_model.specs.declared.Card.{Card}
use Rattle.tach_media.specs.Medium.{State}
use Rattle.unit_minutes.specs.gated_ring.Ring.{Shape, IsDense}
use Rattle.run_acts.specs.message_model.Records.{insertion_ring, unit_place_ring}
use Rattle.device_calls.specs.card_image.Own.{own_sizes, IsOwnValid}
use Rattle.device_calls.specs.safety_model.Recording.{Recording, card_image}
use Rattle.device_calls.specs.safety_model.Safe.{Devices, card_of}
use Rattle.run_minutes.specs.run_promise.Found.{registration_of}
use Rattle.run_minutes.specs.run_devices.Strung.{HasSameHolder}
use Rattle.run_minutes.specs.run_devices.Registered.{TellsOfTwo}

-- a ring that was dense at the start is dense in each image of the unit that a stop may leave
abbrev pub StaysDense : Shape → (start : List ℕ) → (now : Devices) → Type 0
StaysDense ring start now = IsDense ring start → (x : List ℕ) → now.unit.may_leave x → IsDense ring x

-- THE RINGS of insertions and places STAY DENSE, so that of the next run is said again what they show.
pub record StayDense (r : Recording) (now : Devices) : Type 0 where
  pub insertions : StaysDense insertion_ring r.unit now
  pub places : StaysDense unit_place_ring r.unit now

-- each image that a card might have left since a clock has the number and the file Identification of the start, and all
-- else that no call of a run writes, byte for byte, where the image at the start was valid
abbrev pub KeepsHolder : Recording → Card → (since : ℕ) → State → Type 0
KeepsHolder r c since card = IsOwnValid (card_image r c) → (x : List ℕ) → card.left_since since x
    → HasSameHolder (card_image r c) x

-- EACH CARD IS ITS HOLDER'S STILL.
abbrev pub KeepTheirHolders : Recording → (began now : Devices) → Type 0
KeepTheirHolders r began now = (c : Card) → KeepsHolder r c (card_of began c).clock (card_of now c)

-- each vehicle entry of each image that a card might have left since a clock has the registration that the unit's
-- image says, or is one of the start that stands as it stood, at its place; no minute has come in another vehicle; and
-- its current use tells of no open session, is that of the start, or has the registration that the unit's image says,
-- where the card's image at the start was valid
abbrev pub KeepsVehicles : Recording → Card → (since : ℕ) → State → Type 0
KeepsVehicles r c since card = IsOwnValid (card_image r c) → (x : List ℕ) → card.left_since since x
    → TellsOfTwo (own_sizes (card_image r c)) (registration_of r.unit) (card_image r c) x

-- NO CARD TELLS OF ANOTHER VEHICLE than at the start, but of the unit's, whatever calls failed.
abbrev pub KeepTheirVehicles : Recording → (began now : Devices) → Type 0
KeepTheirVehicles r began now = (c : Card) → KeepsVehicles r c (card_of began c).clock (card_of now c)
