-- The fields of a line name its item: an inverse of the grammar. A further kind of line is one case of each definition.
use Rattle.std.proofs.Common.{◌≡◌, ◌∙◌, ℕ, ◌<◌, ◌^◌, Bool, true, false, List, [], ◌∷◌, refl, ap, sym, arith}
use Rattle.std.specs.Prelude.{◌==◌, if◌then◌else◌}
use Rattle.std.specs.Fmt.{decimal}
use Rattle.std.specs.Str.Parse.{digits_value}
use Rattle.std.proofs.lemmas.Fmt.{decimal_is_IsNumeral}
use Rattle.activity_codec.specs.declared.values.Pick.{Pick}
use Rattle.activity_codec.specs.declared.values.Pick.TheVariants.{Rest, Available, Work}
use Rattle.activity_codec.specs.declared.values.Slot.{Slot}
use Rattle.activity_codec.specs.declared.values.Slot.TheVariants.{Driver, CoDriver}
use Rattle.trace_model.specs.declared.Card.{Card}
use Rattle.trace_model.specs.declared.Card.TheVariants.{A, B}
use Rattle.trace_model.specs.declared.Action.TheVariants.{Select, Insert, Withdraw, Tear, Place, Manual}
use Rattle.trace_model.specs.declared.Item.{Item}
use Rattle.trace_model.specs.declared.Item.TheVariants.{Run, Off, Act}
use Rattle.activity_codec.specs.Names.{slot_name, pick_name}
use Rattle.trace_model.specs.Names.{card_name}
use Rattle.trace_text.specs.Line.{item_fields, InRange, ending_word}

-- the first byte of a word, by which words are told apart
abbrev first : List ℕ → ℕ
first [] = 0
first (byte ∷ bytes) = byte

-- the field at a place behind the first
abbrev second : List (List ℕ) → List ℕ
second [] = []
second (field ∷ fields) = field

abbrev third : List (List ℕ) → List ℕ
third [] = []
third (field ∷ fields) = second fields

abbrev fourth : List (List ℕ) → List ℕ
fourth [] = []
fourth (field ∷ fields) = third fields

abbrev fifth : List (List ℕ) → List ℕ
fifth [] = []
fifth (field ∷ fields) = fourth fields

abbrev number_of : List ℕ → ℕ
number_of digits = digits_value 10 digits

abbrev slot_of : List ℕ → Slot
slot_of word = if first word == 100 then Driver else CoDriver

abbrev pick_of : List ℕ → Pick
pick_of word = if first word == 114 then Rest else (if first word == 97 then Available else Work)

abbrev card_of : List ℕ → Card
card_of word = if first word == 97 then A else B

abbrev ending_of : List ℕ → Bool
ending_of word = first word == 101

-- the item of a word with these fields behind it
abbrev item_by : ℕ → List (List ℕ) → Item
item_by letter rest =
    if letter == 114 then Run (number_of (second rest)) (number_of (third rest))
    else (if letter == 111 then Off (number_of (second rest))
    else (if letter == 115 then Act (Select (slot_of (second rest)) (pick_of (third rest)))
    else (if letter == 105 then Act (Insert (slot_of (second rest)) (card_of (third rest)))
    else (if letter == 119 then Act (Withdraw (slot_of (second rest)))
    else (if letter == 116 then Act (Tear (slot_of (second rest)))
    else (if letter == 112 then Act (Place (slot_of (second rest)) (ending_of (third rest)) (number_of (fourth rest)) (number_of (fifth rest)))
    else Act (Manual (slot_of (second rest)) (pick_of (third rest)) (number_of (fourth rest)))))))))

abbrev item_of : List (List ℕ) → Item
item_of [] = Off 0
item_of (word ∷ rest) = item_by (first word) rest

back-number : (n : ℕ) → n < 2 ^ 64 → number_of (decimal n) ≡ n
back-number n small = (decimal_is_IsNumeral n small).1

back-slot : (slot : Slot) → slot_of (slot_name slot) ≡ slot
back-slot Driver = refl
back-slot CoDriver = refl

back-pick : (pick : Pick) → pick_of (pick_name pick) ≡ pick
back-pick Rest = refl
back-pick Available = refl
back-pick Work = refl

back-card : (card : Card) → card_of (card_name card) ≡ card
back-card A = refl
back-card B = refl

back-ending : (ending : Bool) → ending_of (ending_word ending) ≡ ending
back-ending false = refl
back-ending true = refl

-- there and back
pub back : (item : Item) → InRange item → item_of (item_fields item) ≡ item
back (Run n v) fits = rw (back-number n (omega (arith, fits.1)), back-number v (omega (arith, fits.2))) refl
back (Off n) fits = rw (back-number n (omega (arith, fits.1))) refl
back (Act (Select slot pick)) fits = rw (back-slot slot, back-pick pick) refl
back (Act (Insert slot card)) fits = rw (back-slot slot, back-card card) refl
back (Act (Withdraw slot)) fits = rw (back-slot slot) refl
back (Act (Tear slot)) fits = rw (back-slot slot) refl
back (Act (Place slot ending n r)) fits = rw (back-slot slot, back-ending ending, back-number n (omega (arith, fits.0)), back-number r (omega (arith, fits.1))) refl
back (Act (Manual slot pick minute)) fits = rw (back-slot slot, back-pick pick, back-number minute (omega (arith, fits))) refl

-- one item has these fields
pub item-one : (a b : Item) → InRange a → InRange b → item_fields a ≡ item_fields b → a ≡ b
item-one a b p q e = sym (back a p) ∙ ap item_of e ∙ back b q

-- a text spells one number
pub decimal-one : (m n : ℕ) → m < 2 ^ 64 → n < 2 ^ 64 → decimal m ≡ decimal n → m ≡ n
decimal-one m n p q e = sym (back-number m p) ∙ ap number_of e ∙ back-number n q
