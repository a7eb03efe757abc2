-- The parts of a message that are still to be written, and the records of lists.
use Rattle.std.proofs.Common.{◌≡◌, ◌≢◌, ℕ, ◌+◌, ◌-◌, ◌*◌, zero, suc, ◌≤◌, List, [], ◌∷◌, ◌++◌, length, take, drop, refl, ap, ◌∙◌, sym, subst, arith, append_assoc, length-drop}
use Rattle.std.specs.Prelude.{Option, Some, Bool}
use Rattle.byteorder.specs.Endian.{big_number}
use Rattle.json.specs.Token.{Token}
use Rattle.json.specs.Tree.{json_tokens, items_tokens, members_tokens}
use Rattle.json.specs.Json.{Json, object, Items, item, Members, no_members, member}
use Rattle.json_fields.specs.Shown.{AddsMembers}
use Rattle.json_fields.specs.Texts.{change_value}
use Rattle.json_fields.specs.declared.kinds.Kind.{Kind}
use Rattle.file_json.specs.declared.parts.Part.{Part}
use Rattle.file_json.specs.Parts.{HasParts, changes_shown, parts_then}
use Rattle.file_json.specs.Cards.{bytes_then, list_shown, lists_shown}

-- what is written with what the parts of the rest make, and whatever members follow, is the whole with these
pub record AreLeft (parts : List Part) (rest : List ℕ) (old tokens : List Token) (all : Members → Members) : Type 0 where
  pub has : HasParts parts rest
  pub text : (more : Members) → tokens ++ members_tokens (parts_then parts rest more) ≡ old ++ members_tokens (all more)

-- an item more of an array is written
pub one_item_more : (j : Json) (js : Items) (tokens after whole : List Token) → tokens ++ items_tokens (item j js) ≡ whole → after ≡ tokens ++ json_tokens j → after ++ items_tokens js ≡ whole
one_item_more j js tokens after whole so_far is =
    ap (λ (ts : List Token). ts ++ items_tokens js) is ∙ append_assoc tokens (json_tokens j) (items_tokens js) ∙ so_far

-- so many changes are left
pub record AreChanges (on_card : Bool) (n : ℕ) (rest : List ℕ) (tokens whole : List Token) : Type 0 where
  pub sized : 2 * n ≤ length rest
  pub text : tokens ++ items_tokens (changes_shown on_card n rest) ≡ whole

one_change : (on_card : Bool) (n : ℕ) (rest : List ℕ) (tokens after whole : List Token) → AreChanges on_card (suc n) rest tokens whole → after ≡ tokens ++ json_tokens (change_value on_card (big_number 2 (take 2 rest)))
    → AreChanges on_card n (drop 2 rest) after whole
unfolding changes_shown
one_change on_card n rest tokens after whole left is =
    record {
      sized = omega (arith, length-drop 2 rest, left.sized);
      text = one_item_more (change_value on_card (big_number 2 (take 2 rest))) (changes_shown on_card n (drop 2 rest)) tokens after whole left.text is;
    }

pub one_change_more : (on_card : Bool) (n : ℕ) (rest front behind : List ℕ) (tokens after whole : List Token) → n ≢ 0 → front ≡ take 2 rest → behind ≡ drop 2 rest
    → AreChanges on_card n rest tokens whole → after ≡ tokens ++ json_tokens (change_value on_card (big_number 2 front)) → AreChanges on_card (n - 1) behind after whole
one_change_more on_card zero rest front behind tokens after whole some f b left is = absurd (some refl)
one_change_more on_card (suc n) rest front behind tokens after whole some f b left is =
    let e : suc n - 1 ≡ n = omega arith in
    rw (e, b) (one_change on_card n rest tokens after whole left (rw f at is))

pub no_change_left : (on_card : Bool) (n : ℕ) (rest : List ℕ) (tokens whole : List Token) → n ≡ 0 → AreChanges on_card n rest tokens whole → tokens ++ Token.end_array ∷ [] ≡ whole
unfolding changes_shown
no_change_left on_card zero rest tokens whole none left = left.text
no_change_left on_card (suc n) rest tokens whole none left = absurd (omega (arith, none))

-- so many lists are left
pub record AreLists (n len : ℕ) (kind : Kind) (rest : List ℕ) (tokens whole : List Token) : Type 0 where
  pub sized : n * len ≤ length rest
  pub text : tokens ++ items_tokens (lists_shown n len kind rest) ≡ whole

one_list : (n len : ℕ) (kind : Kind) (rest : List ℕ) (tokens after whole : List Token) → AreLists (suc n) len kind rest tokens whole → after ≡ tokens ++ json_tokens (list_shown kind (take len rest))
    → AreLists n len kind (drop len rest) after whole
unfolding lists_shown
one_list n len kind rest tokens after whole left is =
    let more : suc n * len ≡ len + n * len = grind arith in
    record {
      sized = omega (arith, length-drop len rest, left.sized, more);
      text = one_item_more (list_shown kind (take len rest)) (lists_shown n len kind (drop len rest)) tokens after whole left.text is;
    }

pub one_list_more : (n len : ℕ) (kind : Kind) (rest front behind : List ℕ) (tokens after whole : List Token) → n ≢ 0 → front ≡ take len rest → behind ≡ drop len rest
    → AreLists n len kind rest tokens whole → after ≡ tokens ++ json_tokens (list_shown kind front) → AreLists (n - 1) len kind behind after whole
one_list_more zero len kind rest front behind tokens after whole some f b left is = absurd (some refl)
one_list_more (suc n) len kind rest front behind tokens after whole some f b left is =
    let e : suc n - 1 ≡ n = omega arith in
    rw (e, b) (one_list n len kind rest tokens after whole left (rw f at is))

pub no_list_left : (n len : ℕ) (kind : Kind) (rest : List ℕ) (tokens whole : List Token) → n ≡ 0 → AreLists n len kind rest tokens whole → tokens ++ Token.end_array ∷ [] ≡ whole
unfolding lists_shown
no_list_left zero len kind rest tokens whole none left = left.text
no_list_left (suc n) len kind rest tokens whole none left = absurd (omega (arith, none))

-- an object of three values and the members behind them, and of five
pub three_then : (old a b c d e f g h i : List Token) (k l m : List ℕ) (x y z : Json) (all : Members → Members)
    → a ≡ old ++ Token.begin_object ∷ [] → b ≡ a ++ Token.key k ∷ [] → c ≡ b ++ json_tokens x → d ≡ c ++ Token.key l ∷ [] → e ≡ d ++ json_tokens y → f ≡ e ++ Token.key m ∷ [] → g ≡ f ++ json_tokens z
    → AddsMembers g h all → i ≡ h ++ Token.end_object ∷ []
    → i ≡ old ++ json_tokens (object (member k x (member l y (member m z (all no_members)))))
three_then old a b c d e f g h i k l m x y z all ea eb ec ed ee ef eg adds ei = ei ∙ adds no_members ∙ rw (eg, ef, ee, ed, ec, eb, ea) (simp append_assoc)

pub five_then : (old a b c d e f g h i j k l m : List Token) (n o p q r : List ℕ) (u v w x y : Json) (all : Members → Members)
    → a ≡ old ++ Token.begin_object ∷ [] → b ≡ a ++ Token.key n ∷ [] → c ≡ b ++ json_tokens u → d ≡ c ++ Token.key o ∷ [] → e ≡ d ++ json_tokens v → f ≡ e ++ Token.key p ∷ [] → g ≡ f ++ json_tokens w
    → h ≡ g ++ Token.key q ∷ [] → i ≡ h ++ json_tokens x → j ≡ i ++ Token.key r ∷ [] → k ≡ j ++ json_tokens y
    → AddsMembers k l all → m ≡ l ++ Token.end_object ∷ []
    → m ≡ old ++ json_tokens (object (member n u (member o v (member p w (member q x (member r y (all no_members)))))))
five_then old a b c d e f g h i j k l m n o p q r u v w x y all ea eb ec ed ee ef eg eh ei ej ek adds em = em ∙ adds no_members ∙ rw (ek, ej, ei, eh, eg, ef, ee, ed, ec, eb, ea) (simp append_assoc)

-- where the newest records of a string are told its bytes are not
pub no_bytes : (last : Option ℕ) (n : ℕ) (tokens : List Token) (string : List ℕ) → last ≡ Some n → AddsMembers tokens tokens (bytes_then last string)
no_bytes last n tokens string is = subst (λ (o : Option ℕ). AddsMembers tokens tokens (bytes_then o string)) (sym is) (λ more. refl)
