-- A card file as JSON.
use Rattle.std.specs.Prelude.{◌≡◌, ℕ, zero, suc, ◌+◌, ◌-◌, ◌*◌, ◌/◌, ◌%◌, ◌≤◌, ◌==◌, ◌&&◌, nat_le, Bool, false}
use Rattle.std.specs.Prelude.{if◌then◌else◌, Option, Some, None, List, [], ◌∷◌, ◌++◌, length, take, drop, codes}
use Rattle.std.specs.Fmt.{decimal}
use Rattle.byteorder.specs.Endian.{big_number, big_bytes}
use Rattle.card_layout.specs.declared.files.Application.{Application}
use Rattle.card_image.specs.CardFile.{FileEntry, entry_bytes, IsCardFile}
use Rattle.hex.specs.Hex.{encode_lower}
use Rattle.json.specs.Json.{Json, number, string, array, object, Items, no_items, item, Members, no_members, member}
use Rattle.json.specs.Print.{print}
use Rattle.json.specs.Tree.{json_tokens}
use Rattle.json_fields.specs.declared.kinds.Kind.{Kind}
use Rattle.json_fields.specs.declared.kinds.Kind.TheVariants as kind
use Rattle.json_fields.specs.declared.names.Name.TheVariants as name
use Rattle.json_fields.specs.Names.{name_text}
use Rattle.json_fields.specs.Kinds.{fields_of}
use Rattle.json_fields.specs.Shown.{records_shown, record_shown}
use Rattle.file_json.specs.declared.card.Ring.{Ring}
use Rattle.file_json.specs.declared.card.Sets.{Sets}
use Rattle.file_json.specs.declared.card.Shape.{Shape}
use Rattle.file_json.specs.declared.card.Shape.TheVariants.{Record, Events, Faults, Days, Vehicles, Places, Conditions}
use Rattle.file_json.specs.declared.card.Shape.TheVariants.{Bytes}
use Rattle.file_json.specs.declared.card.TheConstants.{VEHICLES, PLACES, EVENT_SETS, FAULT_SETS}
use Rattle.file_json.specs.Parts.{width_of}
use Rattle.file_json.specs.Days.{string_shown}

-- ---- what a file holds

-- the records of a list, as many as there are
abbrev pub list_shown : Kind → List ℕ → Json
list_shown kind value = records_shown (length value / width_of kind) (fields_of kind) value

-- so many lists, each of so many bytes
unfoldable pub lists_shown : (count len : ℕ) → Kind → List ℕ → Items
lists_shown zero len kind value = no_items
lists_shown (suc count) len kind value = item (list_shown kind (take len value))
    (lists_shown count len kind (drop len value))

-- so many lists of so many records each
abbrev pub lists_of : (count records : ℕ) → Kind → List ℕ → Items
lists_of zero records kind value = no_items
lists_of (suc count) records kind value =
    item (records_shown records (fields_of kind) (take (records * width_of kind) value))
    (lists_of count records kind (drop (records * width_of kind) value))

-- lists of as many records each, under their name
abbrev pub sets_told : Sets → List ℕ → Json
sets_told sets value = object (member (name_text sets.list)
    (array (lists_shown sets.count (length value / sets.count) sets.kind value)) no_members)

-- so many bytes are lists of as many records each
abbrev pub sets_fit : Sets → ℕ → Bool
sets_fit sets len = len % (sets.count * width_of sets.kind) == 0

-- a few lists
abbrev pub AreSets : Sets → Type 0
AreSets sets = (1 ≤ sets.count) × (sets.count ≤ 6)

-- the specific conditions, under their name
abbrev pub conditions_told : List ℕ → Json
conditions_told value = object (member (name_text name.SpecificConditionRecords) (list_shown kind.Condition value)
    no_members)

-- a pointer, and the records behind it
abbrev pub ring_told : Ring → List ℕ → Json
ring_told ring value =
    object (member (name_text ring.pointer) (number (decimal (big_number ring.width value)))
    (member (name_text ring.list) (list_shown ring.kind (drop ring.width value)) no_members))

-- so many bytes are a pointer and records
abbrev pub ring_fits : Ring → ℕ → Bool
ring_fits ring len = nat_le ring.width len && (len - ring.width) % width_of ring.kind == 0

-- a pointer of one byte or two
abbrev pub IsRing : Ring → Type 0
IsRing ring = (1 ≤ ring.width) × (ring.width ≤ 2)

-- its bytes where all of its records are told
abbrev pub bytes_then : Option ℕ → List ℕ → Members → Members
bytes_then None bytes more = member (codes "bytes") (string (encode_lower bytes)) more
bytes_then (Some last) bytes more = more

-- THE STRING OF DAYS: its pointers, its records, and its bytes; or the newest so many of its records, without the bytes
abbrev pub days_told : Option ℕ → List ℕ → Json
days_told last value =
    object (member (name_text name.ActivityPointerOldestDayRecord) (number (decimal (big_number 2 value)))
    (member (name_text name.ActivityPointerNewestRecord) (number (decimal (big_number 2 (drop 2 value))))
    (member (name_text name.ActivityDailyRecords)
    (string_shown last (big_number 2 value) (big_number 2 (drop 2 value)) (drop 4 value))
    (bytes_then last (drop 4 value) no_members))))

-- a value by its shape
abbrev pub told : Option ℕ → Shape → List ℕ → Json
told last (Record kind) value = record_shown (fields_of kind) value
told last Events value = sets_told EVENT_SETS value
told last Faults value = sets_told FAULT_SETS value
told last Days value = days_told last value
told last Vehicles value = ring_told VEHICLES value
told last Places value = ring_told PLACES value
told last Conditions value = conditions_told value
told last Bytes value = string (encode_lower value)

-- whether so many bytes have this shape
abbrev pub fits : Shape → ℕ → Bool
fits (Record kind) len = len == width_of kind
fits Events len = sets_fit EVENT_SETS len
fits Faults len = sets_fit FAULT_SETS len
fits Days len = nat_le 4 len
fits Vehicles len = ring_fits VEHICLES len
fits Places len = ring_fits PLACES len
fits Conditions len = len % width_of kind.Condition == 0
fits Bytes len = false

-- what a file holds: by its shape where its length fits that, else as bytes
abbrev pub content_then : Option ℕ → Shape → List ℕ → Members → Members
content_then last shape value more =
    if fits shape (length value) then member (codes "value") (told last shape value) more
    else member (codes "bytes") (string (encode_lower value)) more

-- ---- the files of a card by their identifiers (Appendix 2, section 4)

-- what a file holds, by its identifier
abbrev pub shape_by : ℕ → Shape
shape_by fid =
    if fid == 0x0002 then Record kind.Icc
    else (if fid == 0x0005 then Record kind.Ic else (if fid == 0x0501 then Record kind.ApplicationIdentification
    else (if fid == 0x0502 then Events
    else (if fid == 0x0503 then Faults else (if fid == 0x0504 then Days else (if fid == 0x0505 then Vehicles
    else (if fid == 0x0506 then Places
    else (if fid == 0x0507 then Record kind.CurrentUse else (if fid == 0x0508 then Record kind.CardControl
    else (if fid == 0x050E then Record kind.CardDownload
    else (if fid == 0x0520 then Record kind.Identification else (if fid == 0x0521 then Record kind.Licence
    else (if fid == 0x0522 then Conditions
    else (if fid == 0xC100 then Record kind.CardCertificate
    else (if fid == 0xC108 then Record kind.CardCertificate else Bytes)))))))))))))))

-- a signature is bytes
abbrev pub shape_of : (fid kind : ℕ) → Shape
shape_of fid kind = if kind == 0 then shape_by fid else Bytes

-- what a file is called
abbrev pub file_name : ℕ → List ℕ
file_name fid =
    if fid == 0x0002 then codes "icc"
    else (if fid == 0x0005 then codes "ic" else (if fid == 0x0501 then codes "applicationIdentification"
    else (if fid == 0x0502 then codes "eventsData"
    else (if fid == 0x0503 then codes "faultsData" else (if fid == 0x0504 then codes "driverActivityData"
    else (if fid == 0x0505 then codes "vehiclesUsed"
    else (if fid == 0x0506 then codes "places" else (if fid == 0x0507 then codes "currentUsage"
    else (if fid == 0x0508 then codes "controlActivityData"
    else (if fid == 0x050E then codes "cardDownload" else (if fid == 0x0520 then codes "identification"
    else (if fid == 0x0521 then codes "drivingLicenceInfo"
    else (if fid == 0x0522 then codes "specificConditions" else (if fid == 0xC100 then codes "cardCertificate"
    else (if fid == 0xC108 then codes "caCertificate" else codes "other")))))))))))))))

-- whether an entry is a file's value or its signature
abbrev pub kind_name : ℕ → List ℕ
kind_name kind = if kind == 0 then codes "value" else codes "signature"

-- a file at a place
abbrev pub entry_shown : (last : Option ℕ) → (place : ℕ) → FileEntry → Json
entry_shown last place e =
    object (member (codes "place") (number (decimal place))
    (member (codes "fileId") (string (encode_lower (big_bytes 2 e.fid)))
    (member (codes "name") (string (file_name e.fid))
    (member (codes "kind") (string (kind_name e.kind))
    (member (codes "length") (number (decimal (length e.value)))
    (content_then last (shape_of e.fid e.kind) e.value no_members))))))

-- files, one after the other
abbrev pub entries_shown : (last : Option ℕ) → (place : ℕ) → List FileEntry → Items
entries_shown last place [] = no_items
entries_shown last place (e ∷ es) = item (entry_shown last place e)
    (entries_shown last (place + length (entry_bytes e)) es)

-- A CARD FILE AS JSON, of all its days or of the newest so many
abbrev pub json_of_card : Option ℕ → List FileEntry → Json
json_of_card last entries = object (member (codes "file") (string (codes "card"))
    (member (codes "files") (array (entries_shown last 0 entries)) no_members))

-- the bytes are a card file, and what is printed is the text of its JSON, with LF behind it
pub record IsCardJson (last : Option ℕ) (bytes out : List ℕ) : Type 0 where
  pub app : Application
  pub days : List ℕ
  pub vehicles : List ℕ
  pub entries : List FileEntry
  pub are : IsCardFile app days vehicles entries bytes
  pub text : out ≡ print (json_tokens (json_of_card last entries)) ++ 10 ∷ []
