-- What stands in a JSON value: its text, its members, its items.
use Rattle.std.proofs.Common.{ℕ, suc, List, [], Some}
use Rattle.std.specs.Prelude.{Option, None, Bool, true, false}
use Rattle.json.specs.Json.{Json, null, boolean, number, string, array, object, Items, no_items, item, Members, no_members, member}

-- the text of a number or a string
abbrev pub text_in : Json → List ℕ
text_in null = []
text_in (boolean b) = []
text_in (number s) = s
text_in (string s) = s
text_in (array js) = []
text_in (object ms) = []

abbrev pub truth_in : Json → Bool
truth_in null = false
truth_in (boolean b) = b
truth_in (number s) = false
truth_in (string s) = false
truth_in (array js) = false
truth_in (object ms) = false

-- the members of an object, its first value, and what stands behind it
abbrev pub members_in : Json → Members
members_in null = no_members
members_in (boolean b) = no_members
members_in (number s) = no_members
members_in (string s) = no_members
members_in (array js) = no_members
members_in (object ms) = ms

abbrev pub first_in : Members → Json
first_in no_members = null
first_in (member name value ms) = value

abbrev pub behind_in : Members → Members
behind_in no_members = no_members
behind_in (member name value ms) = ms

-- the value of an option
abbrev pub value_in : Option Json → Json
value_in (Some j) = j
value_in None = null

-- the items of an array, its first one, what stands behind it, and how many there are
abbrev pub items_in : Json → Items
items_in null = no_items
items_in (boolean b) = no_items
items_in (number s) = no_items
items_in (string s) = no_items
items_in (array js) = js
items_in (object ms) = no_items

abbrev pub first_item : Items → Json
first_item no_items = null
first_item (item j js) = j

abbrev pub behind_item : Items → Items
behind_item no_items = no_items
behind_item (item j js) = js

abbrev pub count_in : Items → ℕ
count_in no_items = 0
count_in (item j js) = suc (count_in js)

abbrev pub is_null : Json → Bool
is_null null = true
is_null (boolean b) = false
is_null (number s) = false
is_null (string s) = false
is_null (array js) = false
is_null (object ms) = false
