-- A unit file as JSON.
use Rattle.std.specs.Prelude.{◌≡◌, ℕ, ◌+◌, ◌-◌, ◌==◌, ◌&&◌, not, Bool, true, false, if◌then◌else◌, Option, Some, None}
use Rattle.std.specs.Prelude.{List, [], ◌∷◌, ◌++◌, length, drop, filter, slice_index, codes}
use Rattle.std.specs.Fmt.{decimal}
use Rattle.json.specs.Json.{Json, number, string, array, object, Items, no_items, item, no_members, member}
use Rattle.json.specs.Print.{print}
use Rattle.json.specs.Tree.{json_tokens}
use Rattle.file_view.specs.UnitFiles.{days_told}
use Rattle.message_model.specs.Messages.{Message, AnOverview, ADay, AnEventList, ASpeedList, ATechnical, message_bytes}
use Rattle.message_model.specs.Messages.{IsUnitFile}
use Rattle.file_json.specs.declared.parts.Part.{Part}
use Rattle.file_json.specs.declared.parts.TheConstants.{OVERVIEW, ACTIVITIES, EVENTS, SPEEDS, TECHNICAL}
use Rattle.file_json.specs.Parts.{parts_then}

-- the parts of a message by its number (TREP)
abbrev pub parts_of : ℕ → List Part
parts_of trep = if trep == 1 then OVERVIEW
    else (if trep == 2 then ACTIVITIES else (if trep == 3 then EVENTS else (if trep == 4 then SPEEDS else TECHNICAL)))

-- what a message is called, by its number
abbrev pub message_name : ℕ → List ℕ
message_name trep = if trep == 1 then codes "overview"
    else (if trep == 2 then codes "activities"
    else (if trep == 3 then codes "eventsAndFaults"
    else (if trep == 4 then codes "detailedSpeed" else codes "technicalData")))

-- a message of these bytes at a place
abbrev pub message_shown : (place : ℕ) → List ℕ → Json
message_shown place bytes =
    object (member (codes "place") (number (decimal place))
    (member (codes "trep") (number (decimal (slice_index bytes 1)))
    (member (codes "message") (string (message_name (slice_index bytes 1)))
    (parts_then (parts_of (slice_index bytes 1)) (drop 2 bytes) no_members))))

-- messages, one after the other
abbrev pub messages_shown : (place : ℕ) → List Message → Items
messages_shown place [] = no_items
messages_shown place (m ∷ ms) = item (message_shown place (message_bytes m))
    (messages_shown (place + length (message_bytes m)) ms)

-- ---- of the last days alone

-- a message, and the place where it begins
pub record Standing : Type 0 where
  pub place : ℕ
  pub message : Message

-- messages that stand one after the other
abbrev pub standing_from : (place : ℕ) → List Message → List Standing
standing_from place [] = []
standing_from place (m ∷ ms) = record { place = place; message = m }
    ∷ standing_from (place + length (message_bytes m)) ms

-- whether a message is one of a day
abbrev pub is_day_message : Message → Bool
is_day_message (AnOverview m) = false
is_day_message (ADay m) = true
is_day_message (AnEventList m) = false
is_day_message (ASpeedList m) = false
is_day_message (ATechnical m) = false

-- where so many messages of days are left out, this one is
abbrev pub is_left_out : (skip : ℕ) → Message → Bool
is_left_out skip m = not (skip == 0) && is_day_message m

-- messages without the first so many of days
abbrev pub without_days : (skip : ℕ) → List Standing → List Standing
without_days skip [] = []
without_days skip (s ∷ ss) = if is_left_out skip s.message then without_days (skip - 1) ss
    else s ∷ without_days skip ss

-- the messages among them
abbrev pub messages_in : List Standing → List Message
messages_in [] = []
messages_in (s ∷ ss) = s.message ∷ messages_in ss

-- the messages of no day
abbrev pub of_no_day : List Message → List Message
of_no_day ms = filter (λ (m : Message). not (is_day_message m)) ms

-- those that stay of the last so many days
abbrev pub of_last_days : (last : ℕ) → List Message → List Standing
of_last_days last messages = without_days (length (days_told messages) - last) (standing_from 0 messages)

-- each of them where it stands
abbrev pub standing_shown : List Standing → Items
standing_shown [] = no_items
standing_shown (s ∷ ss) = item (message_shown s.place (message_bytes s.message)) (standing_shown ss)

-- all messages of a file, or all but those of days before the last so many
abbrev pub messages_told : Option ℕ → List Message → Items
messages_told None messages = messages_shown 0 messages
messages_told (Some last) messages = standing_shown (of_last_days last messages)

-- messages as the JSON of a unit file
abbrev pub json_of_messages : Items → Json
json_of_messages items = object (member (codes "file") (string (codes "unit"))
    (member (codes "messages") (array items) no_members))

-- A UNIT FILE AS JSON, of all its days or of the last so many
abbrev pub json_of_unit : Option ℕ → List Message → Json
json_of_unit last messages = json_of_messages (messages_told last messages)

-- the bytes are a unit file, and what is printed is the text of its JSON, with LF behind it
pub record IsUnitJson (last : Option ℕ) (bytes out : List ℕ) : Type 0 where
  pub messages : List Message
  pub are : IsUnitFile messages bytes
  pub text : out ≡ print (json_tokens (json_of_unit last messages)) ++ 10 ∷ []
