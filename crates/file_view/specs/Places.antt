-- Where the messages of a unit file stand.
use Rattle.std.specs.Prelude.{◌≡◌, ℕ, ◌+◌, ◌≤◌, List, [], ◌∷◌, length, drop}
use Rattle.message_model.specs.Messages.{Message, message_bytes}
use Rattle.unit_messages.specs.Reading.{BeginsWith, request_of}
use Rattle.file_view.specs.declared.places.MessageAt.{MessageAt}

-- a message stands from one place to another
pub record IsNext (bytes : List ℕ) (place end : ℕ) (m : Message) : Type 0 where
  pub begins : BeginsWith m (drop place bytes)
  pub end_is : end ≡ place + length (message_bytes m)
  pub inside : end ≤ length bytes

-- a message stands there
pub record IsPlaced (bytes : List ℕ) (at : MessageAt) (m : Message) : Type 0 where
  pub begins : BeginsWith m (drop at.place bytes)
  pub inside : at.place + at.len ≤ length bytes
  pub len : at.len ≡ length (message_bytes m)
  pub request : at.request ≡ request_of m

-- these messages stand there, one each
abbrev pub ArePlaced : List ℕ → List MessageAt → List Message → Type 0
ArePlaced bytes [] messages = messages ≡ []
ArePlaced bytes (at ∷ all) [] = ⊥
ArePlaced bytes (at ∷ all) (m ∷ messages) = IsPlaced bytes at m × ArePlaced bytes all messages
