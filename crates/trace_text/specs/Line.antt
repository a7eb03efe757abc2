-- The grammar of one line of a trace (profile).
use Rattle.std.specs.Prelude.{◌≡◌, ℕ, ◌≤◌, Bool, true, false, IsTrue, List, [], ◌∷◌, codes, decimal}
use Rattle.activity_codec.specs.Names.{slot_name, pick_name}
use Rattle.trace_model.specs.Names.{card_name}
use Rattle.trace_model.specs.declared.Action.TheVariants.{Select, Insert, Withdraw, Tear, Place, Manual}
use Rattle.trace_model.specs.declared.Item.{Item}
use Rattle.trace_model.specs.declared.Item.TheVariants.{Run, Off, Act}
use Rattle.trace_text.specs.declared.lines_trace.Form.{Form}
use Rattle.trace_text.specs.declared.lines_trace.Form.TheVariants.{Minutes, Whole}

-- whether a place is where the day begins or where it ends
abbrev pub ending_word : Bool → List ℕ
ending_word false = codes "begin"
ending_word true = codes "end"

-- `start T`
abbrev pub start_fields : ℕ → List (List ℕ)
start_fields second = codes "start" ∷ decimal second ∷ []

-- `run N V`, `off N`, `select SLOT ACT`, `insert SLOT CARD`, `withdraw SLOT`, `tear SLOT`, `place SLOT KIND N R` and
-- `manual SLOT ACT M`
abbrev pub item_fields : Item → List (List ℕ)
item_fields (Run seconds speed) = codes "run" ∷ decimal seconds ∷ decimal speed ∷ []
item_fields (Off seconds) = codes "off" ∷ decimal seconds ∷ []
item_fields (Act (Select slot pick)) = codes "select" ∷ slot_name slot ∷ pick_name pick ∷ []
item_fields (Act (Insert slot card)) = codes "insert" ∷ slot_name slot ∷ card_name card ∷ []
item_fields (Act (Withdraw slot)) = codes "withdraw" ∷ slot_name slot ∷ []
item_fields (Act (Tear slot)) = codes "tear" ∷ slot_name slot ∷ []
item_fields (Act (Place slot ending country region)) =
    codes "place" ∷ slot_name slot ∷ ending_word ending ∷ decimal country ∷ decimal region ∷ []
item_fields (Act (Manual slot pick minute)) = codes "manual" ∷ slot_name slot ∷ pick_name pick ∷ decimal minute ∷ []

-- the lines that a form knows behind `start`: the form of minutes `run` and `select`, and the whole form all
abbrev pub knows : Form → Item → Bool
knows Minutes (Run seconds speed) = true
knows Minutes (Off seconds) = false
knows Minutes (Act (Select slot pick)) = true
knows Minutes (Act (Insert slot card)) = false
knows Minutes (Act (Withdraw slot)) = false
knows Minutes (Act (Tear slot)) = false
knows Minutes (Act (Place slot ending country region)) = false
knows Minutes (Act (Manual slot pick minute)) = false
knows Whole (Run seconds speed) = true
knows Whole (Off seconds) = true
knows Whole (Act (Select slot pick)) = true
knows Whole (Act (Insert slot card)) = true
knows Whole (Act (Withdraw slot)) = true
knows Whole (Act (Tear slot)) = true
knows Whole (Act (Place slot ending country region)) = true
knows Whole (Act (Manual slot pick minute)) = true

-- the seconds that a trace may begin with
abbrev pub IsFirstSecond : ℕ → Type 0
IsFirstSecond second = (86400 ≤ second) × (second ≤ 4294880895)

-- the numbers of a line are in their ranges
abbrev pub InRange : Item → Type 0
InRange (Run seconds speed) = (1 ≤ seconds) × (seconds ≤ 34560000) × (speed ≤ 255)
InRange (Off seconds) = (1 ≤ seconds) × (seconds ≤ 34560000)
InRange (Act (Select slot pick)) = Unit {0}
InRange (Act (Insert slot card)) = Unit {0}
InRange (Act (Withdraw slot)) = Unit {0}
InRange (Act (Tear slot)) = Unit {0}
InRange (Act (Place slot ending country region)) = (country ≤ 255) × (region ≤ 255)
InRange (Act (Manual slot pick minute)) = minute ≤ 1439

-- a line that a form knows, with its numbers in their ranges
abbrev pub IsKnown : Form → Item → Type 0
IsKnown form item = IsTrue (knows form item) × InRange item

-- these are the fields of `start` at this second
abbrev pub IsStart : List (List ℕ) → ℕ → Type 0
IsStart fields second = (fields ≡ start_fields second) × IsFirstSecond second

-- these are the fields of an item
abbrev pub IsItem : Form → List (List ℕ) → Item → Type 0
IsItem form fields item = (fields ≡ item_fields item) × IsKnown form item
