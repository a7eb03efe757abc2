-- The parts of which messages are made, one after the other, and where bytes are read as them.
use Rattle.std.specs.Prelude.{◌≡◌, ℕ, ◌+◌, ◌-◌, ◌*◌, ◌%◌, ◌==◌, ◌&&◌, nat_le, nat_lt, Bool, List, [], ◌∷◌, length}
use Rattle.std.specs.Prelude.{slice_index, Option, Some, None, option_and_then, if◌then◌else◌}
use Rattle.std.specs.List.{list_all}
use Rattle.card_layout.specs.Images.{number_at}
use Rattle.unit_model.specs.Days.{word_minute}
use Rattle.unit_model.specs.Image.{words_at}
use Rattle.link_model.specs.declared.request.Request.{Request}
use Rattle.link_model.specs.declared.request.Request.TheVariants.{Overview as AskOverview, Day as AskDay}
use Rattle.link_model.specs.declared.request.Request.TheVariants.{Events as AskEvents, Speed as AskSpeed}
use Rattle.link_model.specs.declared.request.Request.TheVariants.{Technical as AskTechnical}
use Rattle.link_model.specs.declared.services.TheConstants.{MESSAGE, OVERVIEW_NUMBER, DAY_NUMBER, EVENTS_NUMBER}
use Rattle.link_model.specs.declared.services.TheConstants.{SPEED_NUMBER, TECHNICAL_NUMBER, DAY_SECONDS}
use Rattle.message_model.specs.Messages.{counted, AreEntries}
use Rattle.unit_messages.specs.declared.parts.Part.{Part}
use Rattle.unit_messages.specs.declared.parts.Part.TheVariants.{Field, Few, Many}
use Rattle.unit_messages.specs.declared.parts.TheConstants.{OVERVIEW_PARTS, DAY_PARTS, EVENT_PARTS, SPEED_PARTS}
use Rattle.unit_messages.specs.declared.parts.TheConstants.{TECHNICAL_PARTS}
use Rattle.unit_messages.specs.declared.reading.MessageRead.{MessageRead}

-- entries of one size behind their count
abbrev pub AreCounted : (width size : ℕ) → List ℕ → Type 0
AreCounted width size bytes = (entries : List (List ℕ)) × AreEntries width size entries
    × (bytes ≡ counted width entries)

-- the bytes of a part
abbrev pub IsPart : Part → List ℕ → Type 0
IsPart (Field n) bytes = length bytes ≡ n
IsPart (Few size) bytes = AreCounted 1 size bytes
IsPart (Many size) bytes = AreCounted 2 size bytes

-- how many bytes a part has at most
abbrev pub most : Part → ℕ
most (Field n) = n
most (Few size) = 1 + 256 * size
most (Many size) = 2 + 65536 * size

-- how many bytes parts have at most, one after the other
abbrev pub most_of : List Part → ℕ
most_of [] = 0
most_of (part ∷ parts) = most part + most_of parts

-- parts, each by its bytes
abbrev pub AreParts : List Part → List (List ℕ) → Type 0
AreParts [] fields = fields ≡ []
AreParts (part ∷ parts) [] = ⊥
AreParts (part ∷ parts) (field ∷ fields) = IsPart part field × AreParts parts fields

-- an end that lies inside the bytes
abbrev pub within : List ℕ → ℕ → Option ℕ
within bytes end = if nat_le end (length bytes) then Some end else None

-- where entries end whose count stands at a place
abbrev pub counted_end : List ℕ → (at width size : ℕ) → Option ℕ
counted_end bytes at width size =
    if nat_le (at + width) (length bytes) then within bytes (at + width + number_at bytes at width * size) else None

-- where a part ends that begins at a place; None where the bytes end before it
abbrev pub part_end : List ℕ → ℕ → Part → Option ℕ
part_end bytes at (Field n) = within bytes (at + n)
part_end bytes at (Few size) = counted_end bytes at 1 size
part_end bytes at (Many size) = counted_end bytes at 2 size

-- where the last of these parts ends, the first of which begins at a place
abbrev pub parts_end : List ℕ → List Part → ℕ → Option ℕ
parts_end bytes [] at = Some at
parts_end bytes (part ∷ parts) at = option_and_then (parts_end bytes parts) (part_end bytes at part)

-- a message that is read, by where its parts end
abbrev pub read_as : Request → Option ℕ → Option MessageRead
read_as request None = None
read_as request (Some end) = Some (record { request = request; len = end })

-- the place of a day's first word, behind its insertions and the words' count
abbrev pub words_place : List ℕ → ℕ
words_place bytes = 13 + 129 * number_at bytes 9 2

-- how many words a day has, by the count in front of them
abbrev pub word_count : List ℕ → ℕ
word_count bytes = number_at bytes (words_place bytes - 2) 2

-- each word is below 1440
abbrev pub are_words : List ℕ → Bool
are_words words = list_all (λ w. nat_lt (word_minute w) 1440) words

-- a day is a day's first second, and each of its words stands in it
abbrev pub day_at_front : List ℕ → Option ℕ → Option MessageRead
day_at_front bytes None = None
day_at_front bytes (Some end) =
    if number_at bytes 2 4 % DAY_SECONDS == 0 && are_words (words_at bytes (words_place bytes) (word_count bytes))
    then read_as (AskDay (number_at bytes 2 4)) (Some end) else None

-- the message of this number at the front
abbrev pub numbered_at_front : List ℕ → ℕ → Option MessageRead
numbered_at_front bytes number =
    if number == OVERVIEW_NUMBER then read_as AskOverview (parts_end bytes OVERVIEW_PARTS 2)
    else if number == DAY_NUMBER then day_at_front bytes (parts_end bytes DAY_PARTS 2)
    else if number == EVENTS_NUMBER then read_as AskEvents (parts_end bytes EVENT_PARTS 2)
    else if number == SPEED_NUMBER then read_as AskSpeed (parts_end bytes SPEED_PARTS 2)
    else if number == TECHNICAL_NUMBER then read_as AskTechnical (parts_end bytes TECHNICAL_PARTS 2) else None

-- what is read at the front of bytes
abbrev pub at_front : List ℕ → Option MessageRead
at_front bytes = if nat_le 2 (length bytes) && slice_index bytes 0 == MESSAGE
    then numbered_at_front bytes (slice_index bytes 1) else None
