-- The parts of a message as members of a JSON object.
use Rattle.std.specs.Prelude.{◌≡◌, ℕ, zero, suc, ◌+◌, ◌*◌, ◌≤◌, Bool, true, false, List, [], ◌∷◌, ◌++◌}
use Rattle.std.specs.Prelude.{length, take, drop, codes}
use Rattle.byteorder.specs.Endian.{big_number}
use Rattle.json.specs.Json.{array, Items, no_items, item, Members, member}
use Rattle.json_fields.specs.declared.kinds.Kind.{Kind}
use Rattle.json_fields.specs.declared.names.Name.TheVariants.{ActivityChangeInfos}
use Rattle.json_fields.specs.Names.{name_text}
use Rattle.json_fields.specs.Kinds.{fields_of}
use Rattle.json_fields.specs.Shown.{members_then, record_shown, records_shown, value_shown, width_of_record}
use Rattle.json_fields.specs.Shown.{are_distinct, names_in}
use Rattle.json_fields.specs.Texts.{change_value}
use Rattle.file_json.specs.declared.parts.Part.{Part}
use Rattle.file_json.specs.declared.parts.Part.TheVariants.{Fields, Record, List as ListOf, Changes}

-- so many changes of activity, of a unit or on a card
unfoldable pub changes_shown : (on_card : Bool) → ℕ → List ℕ → Items
changes_shown on_card zero bytes = no_items
changes_shown on_card (suc n) bytes = item (change_value on_card (big_number 2 (take 2 bytes)))
    (changes_shown on_card n (drop 2 bytes))

-- the bytes of a record
abbrev pub width_of : Kind → ℕ
width_of kind = width_of_record (fields_of kind)

-- how many bytes the part has that stands at the front of these
abbrev pub part_len : Part → List ℕ → ℕ
part_len (Fields kind) bytes = width_of kind
part_len (Record name kind) bytes = width_of kind
part_len (ListOf name width kind) bytes = width + width_of kind * big_number width bytes
part_len Changes bytes = 2 + 2 * big_number 2 bytes

-- its number is there, in one byte or two
abbrev pub IsCounted : Part → List ℕ → Type 0
IsCounted (Fields kind) bytes = Unit {0}
IsCounted (Record name kind) bytes = Unit {0}
IsCounted (ListOf name width kind) bytes = (1 ≤ width) × (width ≤ 2) × (width ≤ length bytes)
IsCounted Changes bytes = 2 ≤ length bytes

-- the part stands there whole
abbrev pub IsThere : Part → List ℕ → Type 0
IsThere part bytes = IsCounted part bytes × (part_len part bytes ≤ length bytes)

-- all parts stand there, and nothing behind them
abbrev pub HasParts : List Part → List ℕ → Type 0
HasParts [] bytes = bytes ≡ []
HasParts (p ∷ ps) bytes = IsThere p bytes × HasParts ps (drop (part_len p bytes) bytes)

-- a part in front of other members
abbrev pub part_then : Part → List ℕ → Members → Members
part_then (Fields kind) bytes more = members_then value_shown (fields_of kind) bytes more
part_then (Record name kind) bytes more = member (name_text name) (record_shown (fields_of kind) bytes) more
part_then (ListOf name width kind) bytes more = member (name_text name)
    (records_shown (big_number width bytes) (fields_of kind) (drop width bytes)) more
part_then Changes bytes more = member (name_text ActivityChangeInfos)
    (array (changes_shown false (big_number 2 bytes) (drop 2 bytes))) more

-- THE PARTS OF A MESSAGE, one after the other, in front of other members
abbrev pub parts_then : List Part → List ℕ → Members → Members
parts_then [] bytes more = more
parts_then (p ∷ ps) bytes more = part_then p bytes (parts_then ps (drop (part_len p bytes) bytes) more)

-- the names of the members of parts
abbrev pub names_of_part : Part → List (List ℕ)
names_of_part (Fields kind) = names_in (fields_of kind)
names_of_part (Record name kind) = name_text name ∷ []
names_of_part (ListOf name width kind) = name_text name ∷ []
names_of_part Changes = name_text ActivityChangeInfos ∷ []

-- and those of several, in their order
abbrev pub names_of_parts : List Part → List (List ℕ)
names_of_parts [] = []
names_of_parts (p ∷ ps) = names_of_part p ++ names_of_parts ps

-- no two members of a message of these parts have one name
abbrev pub AreNamedParts : List Part → Type 0
AreNamedParts parts = are_distinct (codes "place" ∷ codes "trep" ∷ codes "message" ∷ names_of_parts parts) ≡ true
