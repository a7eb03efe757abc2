-- Which bytes are no unit file, and where they first fail: one message is judged after another.
use Rattle.std.specs.Prelude.{◌≡◌, ◌≢◌, ℕ, List, [], ◌∷◌, ◌++◌, length, map, All, flat_map}
use Rattle.card_layout.specs.Fields.{joined}
use Rattle.unit_model.specs.Days.{UnitMinute}
use Rattle.message_model.specs.Messages.{Message, AnOverview, ADay, AnEventList, ASpeedList, ATechnical, DayMessage}
use Rattle.message_model.specs.Messages.{message_bytes, IsMessage}
use Rattle.message_model.specs.Showing.{time_in, told_day, day_minutes}
use Rattle.file_view.specs.CardFiles.{newest}

-- no message of the grammar stands at the front of these bytes
abbrev pub HasNoMessage : List ℕ → Type 0
HasNoMessage bytes = (m : Message) (more : List ℕ) → IsMessage m → bytes ≢ message_bytes m ++ more

-- The bytes are no unit file, and this is the place of the first message that is not in its grammar, 0 where there is
-- no byte.
pub record IsBadUnitFile (place : ℕ) (bytes : List ℕ) : Type 0 where
  -- the messages before the place
  pub messages : List Message
  pub rest : List ℕ
  pub each : All IsMessage messages
  pub spelled : bytes ≡ joined (map message_bytes messages) ++ rest
  pub place_is : place ≡ length (joined (map message_bytes messages))
  pub stuck : HasNoMessage rest
  -- something stands there, or there is nothing at all
  pub stands : rest ≡ [] → messages ≡ []

-- the messages 02 of a file, in order
abbrev pub days_told : List Message → List DayMessage
days_told [] = []
days_told (AnOverview m ∷ ms) = days_told ms
days_told (ADay m ∷ ms) = m ∷ days_told ms
days_told (AnEventList m ∷ ms) = days_told ms
days_told (ASpeedList m ∷ ms) = days_told ms
days_told (ATechnical m ∷ ms) = days_told ms

-- the minutes of the last n messages 02 of a file
abbrev pub last_minutes : ℕ → List Message → List UnitMinute
last_minutes n messages = flat_map (λ m. day_minutes (time_in messages) (told_day m)) (newest n (days_told messages))
