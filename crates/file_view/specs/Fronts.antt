-- A unit file at the front of bytes: its messages go on as long as the next byte is 76.
use Rattle.std.specs.Prelude.{◌≡◌, ◌⊎◌, ℕ, ◌<◌, ◌==◌, Bool, true, false, Option, Some, None, option_map, List, [], ◌∷◌}
use Rattle.std.specs.Prelude.{◌++◌, length, map, drop, All}
use Rattle.card_layout.specs.Fields.{joined}
use Rattle.tacho_types.specs.declared.texts.Registration.{Registration}
use Rattle.link_model.specs.declared.services.TheConstants.{MESSAGE}
use Rattle.message_model.specs.Messages.{Message, AnOverview, ADay, AnEventList, ASpeedList, ATechnical, message_bytes}
use Rattle.message_model.specs.Messages.{IsMessage}
use Rattle.file_view.specs.UnitFiles.{HasNoMessage}
use Rattle.file_view.specs.declared.front.FrontRead.{FrontRead}

-- the registration that the first overview tells, if there is one
abbrev pub registration_in : List Message → Option (List ℕ)
registration_in [] = None
registration_in (AnOverview m ∷ ms) = Some m.registration
registration_in (ADay m ∷ ms) = registration_in ms
registration_in (AnEventList m ∷ ms) = registration_in ms
registration_in (ASpeedList m ∷ ms) = registration_in ms
registration_in (ATechnical m ∷ ms) = registration_in ms

-- the bytes begin with 76, as each message does
abbrev pub begins_message : List ℕ → Bool
begins_message [] = false
begins_message (b ∷ bytes) = b == MESSAGE

-- the bytes of a registration, if there is one
abbrev pub registration_bytes : Option Registration → Option (List ℕ)
registration_bytes r = option_map (λ x. x.0) r

-- these messages stand at the front, and their first overview tells this registration
pub record Leads (bytes : List ℕ) (messages : List Message) (front : FrontRead) : Type 0 where
  pub each : All IsMessage messages
  pub spelled : bytes ≡ joined (map message_bytes messages) ++ drop front.end bytes
  pub end_is : front.end ≡ length (joined (map message_bytes messages))
  pub registration_is : registration_bytes front.registration ≡ registration_in messages

-- a unit file stands at the front, and behind it comes no byte 76
pub record IsFront (bytes : List ℕ) (front : FrontRead) : Type 0 where
  pub messages : List Message
  pub some : 0 < length messages
  pub leads : Leads bytes messages front
  pub ends : begins_message (drop front.end bytes) ≡ false

-- No unit file stands at the front: this is the place of the first message that is not in its grammar, though it begins
-- with 76 or is the first.
pub record IsBadFront (place : ℕ) (bytes : List ℕ) : Type 0 where
  pub messages : List Message
  pub rest : List ℕ
  pub each : All IsMessage messages
  pub spelled : bytes ≡ joined (map message_bytes messages) ++ rest
  pub place_is : place ≡ length (joined (map message_bytes messages))
  pub stuck : HasNoMessage rest
  pub wanted : (messages ≡ []) ⊎ (begins_message rest ≡ true)

-- the first of two registrations
abbrev pub first_registration : Option (List ℕ) → Option (List ℕ) → Option (List ℕ)
first_registration None later = later
first_registration (Some r) later = Some r
