-- The string of days of a card as JSON, record by record.
use Rattle.std.specs.Prelude.{◌≡◌, ℕ, zero, suc, ◌+◌, ◌-◌, ◌/◌, ◌<◌, ◌≤◌, ◌==◌, ◌&&◌, not, nat_le, nat_lt, Bool, true}
use Rattle.std.specs.Prelude.{if◌then◌else◌, Option, List, [], ◌∷◌, ◌++◌, length, take, drop}
use Rattle.byteorder.specs.Endian.{big_number}
use Rattle.json.specs.Json.{Json, array, object, Items, no_items, item, no_members, member}
use Rattle.json_fields.specs.declared.kinds.Kind.TheVariants.{DailyRecord}
use Rattle.json_fields.specs.declared.names.Name.TheVariants.{ActivityChangeInfos}
use Rattle.json_fields.specs.Names.{name_text}
use Rattle.json_fields.specs.Kinds.{fields_of}
use Rattle.json_fields.specs.Shown.{members_then, value_shown}
use Rattle.card_model.specs.Days.{Day}
use Rattle.card_model.specs.Walk.{day_told}
use Rattle.file_view.specs.Showing.{before_last}
use Rattle.file_json.specs.declared.days.DaysAt.{DaysAt}
use Rattle.file_json.specs.Parts.{changes_shown}

-- the length that a record tells
abbrev pub day_len : List ℕ → ℕ
day_len bytes = big_number 2 (drop 2 bytes)

-- a record stands at the front: its head, a change, and all of its bytes
abbrev pub is_day : List ℕ → Bool
is_day bytes = nat_le 14 (length bytes) && (nat_le 14 (day_len bytes) && nat_le (day_len bytes) (length bytes))

-- a record: its head, and its changes of activity
abbrev pub day_shown : List ℕ → Json
day_shown bytes =
    object (members_then value_shown (fields_of DailyRecord) bytes
    (member (name_text ActivityChangeInfos) (array (changes_shown true ((length bytes - 12) / 2) (drop 12 bytes)))
    no_members))

-- records one after the other, the last of them so far from the front; at most so many
unfoldable pub days_shown : (most far : ℕ) → List ℕ → Items
days_shown zero far bytes = no_items
days_shown (suc most) far bytes =
    if is_day bytes
    then item (day_shown (take (day_len bytes) bytes))
    (if nat_lt far (day_len bytes) then no_items
    else days_shown most (far - day_len bytes) (drop (day_len bytes) bytes))
    else no_items

-- a string, read once round from a place on
abbrev pub circle_from : ℕ → List ℕ → List ℕ
circle_from place string = drop place string ++ take place string

-- how far the newest record stands behind the oldest, round the end
abbrev pub far_between : (oldest newest size : ℕ) → ℕ
far_between oldest newest size = if nat_lt newest oldest then newest + size - oldest else newest - oldest

-- how many items there are
abbrev pub items_count : Items → ℕ
items_count no_items = 0
items_count (item j js) = suc (items_count js)

-- items without the first so many
abbrev pub items_behind : ℕ → Items → Items
items_behind zero js = js
items_behind (suc n) no_items = no_items
items_behind (suc n) (item j js) = items_behind n js

-- all of them, or the last so many
abbrev pub newest_items : Option ℕ → Items → Items
newest_items last js = items_behind (before_last last (items_count js)) js

-- THE RECORDS OF A STRING, from the oldest on: all, or the newest so many
abbrev pub records_of : (oldest newest : ℕ) → List ℕ → Items
records_of oldest newest string = days_shown (length string) (far_between oldest newest (length string))
    (circle_from oldest string)

-- those records as a list
abbrev pub string_shown : (last : Option ℕ) → (oldest newest : ℕ) → List ℕ → Json
string_shown last oldest newest string = array (newest_items last (records_of oldest newest string))

-- ---- where the records of a circle stand

-- those from a place on
abbrev pub days_from : DaysAt → List ℕ → Items
days_from at circle = days_shown at.most at.far (drop at.place circle)

-- whether there is one
abbrev pub stands_at : DaysAt → List ℕ → Bool
stands_at at circle = not (at.most == 0) && is_day (drop at.place circle)

-- the others stand behind the first of them
pub record AreBehind (circle : List ℕ) (at next : DaysAt) : Type 0 where
  pub shown : days_from at circle
      ≡ item (day_shown (take (day_len (drop at.place circle)) (drop at.place circle))) (days_from next circle)
  pub within : next.place ≤ length circle
  pub later : at.place < next.place
  pub fewer : next.most < at.most

-- each item shows the record of a day: bytes that tell it, one each, in their order
abbrev pub ShowDays : Items → List Day → Type 0
ShowDays no_items [] = Unit {0}
ShowDays no_items (d ∷ ds) = ⊥
ShowDays (item j js) [] = ⊥
ShowDays (item j js) (d ∷ ds) = ((bytes : List ℕ) × (j ≡ day_shown bytes) × (day_told bytes ≡ d)) × ShowDays js ds
