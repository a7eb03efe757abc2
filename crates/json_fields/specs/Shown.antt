-- Records of bytes as JSON values, by tables of named fields.
use Rattle.std.specs.Prelude.{◌≡◌, ℕ, zero, suc, ◌+◌, ◌≤◌, List, [], ◌∷◌, ◌++◌, length, take, drop, slice_index}
use Rattle.std.specs.Prelude.{Bool, true, false, not, ◌&&◌, ◌||◌, bytes_eq}
use Rattle.std.specs.Fmt.{decimal}
use Rattle.byteorder.specs.Endian.{big_number}
use Rattle.hex.specs.Hex.{encode_lower}
use Rattle.json.specs.Json.{Json, null, number, string, array, object, Items, no_items, item, Members, no_members}
use Rattle.json.specs.Json.{member}
use Rattle.json.specs.Token.{Token}
use Rattle.json.specs.Tree.{members_tokens}
use Rattle.json_fields.specs.declared.fields.Form.{Form}
use Rattle.json_fields.specs.declared.fields.Form.TheVariants.{Number, Numbers, Bytes, Time, Text, Characters, Coded}
use Rattle.json_fields.specs.declared.fields.Form.TheVariants.{Card, Registration, HolderName, Group as GroupOf}
use Rattle.json_fields.specs.declared.fields.Field.{Field}
use Rattle.json_fields.specs.Names.{name_text}
use Rattle.json_fields.specs.Groups.{group_fields}
use Rattle.json_fields.specs.Texts.{or_none, text_of, time_value, text_value, code_value, card_value}
use Rattle.json_fields.specs.Texts.{registration_value, holder_value, numbers_shown}

-- the fields of a record, each under its name and in its form, in front of other members
abbrev pub members_then : (Form → List ℕ → Json) → List Field → List ℕ → Members → Members
members_then shown [] bytes more = more
members_then shown (f ∷ fs) bytes more = member (name_text f.name) (shown f.form (take f.width bytes))
    (members_then shown fs (drop f.width bytes) more)

-- a field's bytes as a JSON value, if it is no record of others
abbrev pub plain_shown : Form → List ℕ → Json
plain_shown Number bytes = number (decimal (big_number (length bytes) bytes))
plain_shown Numbers bytes = array (numbers_shown bytes)
plain_shown Bytes bytes = string (encode_lower bytes)
plain_shown Time bytes = or_none time_value bytes
plain_shown Text bytes = or_none text_value bytes
plain_shown Characters bytes = or_none text_of bytes
plain_shown (Coded coding) bytes = code_value coding (slice_index bytes 0)
plain_shown Card bytes = or_none card_value bytes
plain_shown Registration bytes = or_none registration_value bytes
plain_shown HolderName bytes = or_none holder_value bytes
plain_shown (GroupOf group) bytes = null

-- the record of a field
abbrev pub group_value : List Field → List ℕ → Json
group_value fields bytes = object (members_then plain_shown fields bytes no_members)

-- A FIELD'S BYTES AS A JSON VALUE
abbrev pub value_shown : Form → List ℕ → Json
value_shown (GroupOf group) bytes = or_none (group_value (group_fields group)) bytes
value_shown form bytes = plain_shown form bytes

-- so many bytes can be shown in this form
abbrev pub CanShowPlain : Form → ℕ → Type 0
CanShowPlain Number width = (1 ≤ width) × (width ≤ 8)
CanShowPlain Numbers width = Unit {0}
CanShowPlain Bytes width = Unit {0}
CanShowPlain Time width = width ≡ 4
CanShowPlain Text width = 1 ≤ width
CanShowPlain Characters width = Unit {0}
CanShowPlain (Coded coding) width = width ≡ 1
CanShowPlain Card width = width ≡ 18
CanShowPlain Registration width = width ≡ 15
CanShowPlain HolderName width = width ≡ 72
CanShowPlain (GroupOf group) width = ⊥

-- the bytes of a record
abbrev pub width_of_record : List Field → ℕ
width_of_record [] = 0
width_of_record (f ∷ fs) = f.width + width_of_record fs

-- a form can show so many bytes, a group where they are those of its fields
abbrev pub CanShow : Form → ℕ → Type 0
CanShow (GroupOf group) width = width ≡ width_of_record (group_fields group)
CanShow form width = CanShowPlain form width

-- each field of a table can be shown
abbrev pub AllCan : (Form → ℕ → Type 0) → List Field → Type 0
AllCan can [] = Unit {0}
AllCan can (f ∷ fs) = can f.form f.width × AllCan can fs

-- each field of a table can be shown, as a record of its own too
abbrev pub AreFields : List Field → Type 0
AreFields fields = AllCan CanShow fields

-- a name stands among others
abbrev pub is_among : List ℕ → List (List ℕ) → Bool
is_among name [] = false
is_among name (other ∷ names) = bytes_eq name other || is_among name names

-- no name stands twice
abbrev pub are_distinct : List (List ℕ) → Bool
are_distinct [] = true
are_distinct (name ∷ names) = not (is_among name names) && are_distinct names

-- the names of fields
abbrev pub names_in : List Field → List (List ℕ)
names_in [] = []
names_in (f ∷ fs) = name_text f.name ∷ names_in fs

-- no two fields of a table have one name
abbrev pub AreNamed : List Field → Type 0
AreNamed fields = are_distinct (names_in fields) ≡ true

-- each field of a table can be shown, and is no record of others
abbrev pub ArePlain : List Field → Type 0
ArePlain fields = AllCan CanShowPlain fields

-- the fields of a record as members, and none behind them
abbrev pub members_shown : List Field → List ℕ → Members
members_shown fields bytes = members_then value_shown fields bytes no_members

-- members were written: with the tokens of whatever members follow, up to the end of the object, these are the tokens
-- of all
abbrev pub AddsMembers : (old new : List Token) → (Members → Members) → Type 0
AddsMembers old new all = (more : Members) → new ++ members_tokens more ≡ old ++ members_tokens (all more)

-- A RECORD AS JSON
abbrev pub record_shown : List Field → List ℕ → Json
record_shown fields bytes = object (members_shown fields bytes)

-- an entry of a list: null where all its bytes are 0, else its record
abbrev pub entry_shown : List Field → List ℕ → Json
entry_shown fields bytes = or_none (record_shown fields) bytes

-- so many entries, one after the other
unfoldable pub items_shown : ℕ → List Field → List ℕ → Items
items_shown zero fields bytes = no_items
items_shown (suc n) fields bytes = item (entry_shown fields (take (width_of_record fields) bytes))
    (items_shown n fields (drop (width_of_record fields) bytes))

-- so many entries as a list
abbrev pub records_shown : ℕ → List Field → List ℕ → Json
records_shown n fields bytes = array (items_shown n fields bytes)
