-- Texts, numbers of cards, registrations, codes and changes of activity as JSON values.
use Rattle.std.specs.Prelude.{ℕ, ◌/◌, ◌%◌, ◌==◌, Bool, if◌then◌else◌, List, [], ◌∷◌, length, take, drop, slice_index}
use Rattle.std.specs.Prelude.{codes, encode_utf8_all}
use Rattle.std.specs.List.{list_all}
use Rattle.std.specs.Fmt.{decimal}
use Rattle.byteorder.specs.Endian.{big_number}
use Rattle.json.specs.Json.{Json, null, boolean, number, string, object, Items, no_items, item, no_members}
use Rattle.json.specs.Json.{member}
use Rattle.json_fields.specs.declared.codes.Coding.{Coding}
use Rattle.json_fields.specs.declared.codes.Coding.TheVariants.{Nation, Equipment}
use Rattle.json_fields.specs.Codes.{meaning}
use Rattle.json_fields.specs.Dates.{time_text}

-- whether all bytes are 0
abbrev pub are_zeros : List ℕ → Bool
are_zeros bytes = list_all (λ b. b == 0) bytes

-- null where all bytes are 0, else what they tell
abbrev pub or_none : (List ℕ → Json) → List ℕ → Json
or_none told bytes = if are_zeros bytes then null else told bytes

-- a byte in front of others, but no space in front of none
abbrev pub in_front : ℕ → List ℕ → List ℕ
in_front b [] = if b == 32 then [] else b ∷ []
in_front b (c ∷ bytes) = b ∷ c ∷ bytes

-- bytes without the spaces at their end
abbrev pub cut : List ℕ → List ℕ
cut [] = []
cut (b ∷ bytes) = in_front b (cut bytes)

-- characters in UTF-8: each byte is that of its number, and only spaces at the end are cut, which the field's width
-- gives back
abbrev pub characters : List ℕ → List ℕ
characters bytes = encode_utf8_all (cut bytes)

-- characters as a JSON string
abbrev pub text_of : List ℕ → Json
text_of bytes = string (characters bytes)

-- a time of four bytes
abbrev pub time_value : List ℕ → Json
time_value bytes = text_of (time_text (big_number 4 bytes))

-- a code page, and characters behind it
abbrev pub text_value : List ℕ → Json
text_value bytes = object (member (codes "codePage") (number (decimal (slice_index bytes 0)))
    (member (codes "text") (text_of (drop 1 bytes)) no_members))

-- a name, or null where there is none
abbrev pub name_value : List ℕ → Json
name_value name = if length name == 0 then null else string name

-- a code, and what it stands for
abbrev pub code_value : Coding → ℕ → Json
code_value coding code = object (member (codes "code") (number (decimal code))
    (member (codes "name") (name_value (meaning coding code)) no_members))

-- a card's type, the state that issued it, and its number
abbrev pub card_value : List ℕ → Json
card_value bytes =
    object (member (codes "cardType") (code_value Equipment (slice_index bytes 0))
    (member (codes "cardIssuingMemberState") (code_value Nation (slice_index bytes 1))
    (member (codes "cardNumber") (text_of (drop 2 bytes)) no_members)))

-- a nation, and a plate
abbrev pub registration_value : List ℕ → Json
registration_value bytes =
    object (member (codes "vehicleRegistrationNation") (code_value Nation (slice_index bytes 0))
    (member (codes "vehicleRegistrationNumber") (or_none text_value (drop 1 bytes)) no_members))

-- a holder's surname and first names
abbrev pub holder_value : List ℕ → Json
holder_value bytes =
    object (member (codes "holderSurname") (or_none text_value (take 36 bytes))
    (member (codes "holderFirstNames") (or_none text_value (drop 36 bytes)) no_members))

-- a number for each byte
abbrev pub numbers_shown : List ℕ → Items
numbers_shown [] = no_items
numbers_shown (b ∷ bytes) = item (number (decimal b)) (numbers_shown bytes)

-- the activity of a number
abbrev pub activity_word : ℕ → List ℕ
activity_word n = if n == 0 then codes "rest"
    else (if n == 1 then codes "available" else (if n == 2 then codes "work" else codes "drive"))

-- the slot that a word names, by its highest bit
abbrev pub slot_word : ℕ → List ℕ
slot_word w = if w / 32768 == 0 then codes "driver" else codes "codriver"

-- what the bit behind the slot's tells (Appendix 1, ActivityChangeInfo): on a card that was in whether there was a
-- crew, on one that was not whether the activity was entered by hand; of a unit whether there was a crew
abbrev pub card_status : ℕ → List ℕ
card_status w = if w / 8192 % 2 == 0 then codes "crew" else codes "byHand"

-- what that bit is called: on a card, and of a unit
abbrev pub status_word : (on_card : Bool) → ℕ → List ℕ
status_word on_card w = if on_card then card_status w else codes "crew"

-- a change of activity: its minute, its slot, whether there was a crew (or it was entered by hand), whether the card
-- was present, and the activity
abbrev pub change_value : (on_card : Bool) → ℕ → Json
change_value on_card w =
    object (member (codes "minute") (number (decimal (w % 2048))) (member (codes "slot") (string (slot_word w))
    (member (status_word on_card w) (boolean (w / 16384 % 2 == 1))
    (member (codes "present") (boolean (w / 8192 % 2 == 0))
    (member (codes "activity") (string (activity_word (w / 2048 % 4))) no_members)))))
