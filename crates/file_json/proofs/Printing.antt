-- The text of an array of objects is that of each, with a comma in front of each but the first.
use Rattle.std.proofs.Common.{◌≡◌, ◌∙◌, ℕ, List, [], ◌∷◌, ◌++◌, refl, ap}
use Rattle.std.specs.Prelude.{Bool, true, false, fold}
use Rattle.std.proofs.lemmas.List.Sums.{fold-append}
use Rattle.json.specs.Json.{Json, null, boolean, number, string, array, object, Items, no_items, item, Members, no_members, member}
use Rattle.json.specs.Print.{print, print_from, ends}
use Rattle.json.specs.Token.{Token}
use Rattle.json.specs.Tree.{json_tokens, items_tokens, members_tokens}
use Rattle.json.proofs.Printed.Tokens.{print_from-append}

-- a comma where a value stands in front
abbrev pub comma : Bool → List ℕ
comma true = 44 ∷ []
comma false = []

-- whether a value has just ended behind tokens
abbrev ended : Bool → List Token → Bool
ended c ts = fold (λ _ t. ends t) c ts

-- behind each value one has
mutual
  value_ends : (j : Json) (c : Bool) → ended c (json_tokens j) ≡ true
  value_ends null c = refl
  value_ends (boolean b) c = refl
  value_ends (number s) c = refl
  value_ends (string s) c = refl
  value_ends (array js) c = items_end js (ends Token.begin_array)
  value_ends (object ms) c = members_end ms (ends Token.begin_object)

  items_end : (js : Items) (c : Bool) → ended c (items_tokens js) ≡ true
  items_end no_items c = refl
  items_end (item j js) c = fold-append (λ _ t. ends t) c (json_tokens j) (items_tokens js) ∙ items_end js (ended c (json_tokens j))

  members_end : (ms : Members) (c : Bool) → ended c (members_tokens ms) ≡ true
  members_end no_members c = refl
  members_end (member k j ms) c =
      fold-append (λ _ t. ends t) (ends (Token.key k)) (json_tokens j) (members_tokens ms) ∙ members_end ms (ended (ends (Token.key k)) (json_tokens j))

front_printed : (after : Bool) (ms : Members) → print_from after (json_tokens (object ms)) ≡ comma after ++ print (json_tokens (object ms))
unfolding print_from
front_printed true ms = refl
front_printed false ms = refl

-- an object, and what stands behind it
pub object_printed : (after : Bool) (ms : Members) (ts : List Token) → print_from after (json_tokens (object ms) ++ ts) ≡ (comma after ++ print (json_tokens (object ms))) ++ print_from true ts
object_printed after ms ts =
    print_from-append after (json_tokens (object ms)) ts
    ∙ ap (λ (l : List ℕ). l ++ print_from (ended after (json_tokens (object ms))) ts) (front_printed after ms)
    ∙ ap (λ (c : Bool). (comma after ++ print (json_tokens (object ms))) ++ print_from c ts) (value_ends (object ms) after)

-- the end of the array and of the object around it
pub end_printed : (after : Bool) → print_from after (Token.end_array ∷ Token.end_object ∷ []) ++ 10 ∷ [] ≡ 93 ∷ 125 ∷ 10 ∷ []
unfolding print_from
end_printed true = refl
end_printed false = refl
