-- Objects that were written, member by member.
use Rattle.std.proofs.Common.{◌≡◌, ◌∙◌, ℕ, List, [], ◌∷◌, ◌++◌, Bool, false, length, take, drop, get_or, ◌+◌, ◌-◌, ◌<◌, refl, ap, sym, arith, append_assoc, append-nil, length-drop}
use Rattle.std.specs.Prelude.{encode_utf8, encode_utf8_all}
use Rattle.std.proofs.lemmas.List.{take_all, take_more}
use Rattle.std.proofs.lemmas.Str.{encodes-append}
use Rattle.json.specs.Json.{Json}
use Rattle.json.specs.Token.{Token}
use Rattle.json_fields.specs.Texts.{are_zeros, or_none}

-- where not all bytes are 0
pub or_none-told : (told : List ℕ → Json) (bytes : List ℕ) (zeros : Bool) → zeros ≡ are_zeros bytes → zeros ≡ false → or_none told bytes ≡ told bytes
or_none-told told bytes zeros same some = let is : are_zeros bytes ≡ false = sym same ∙ some in rw is refl

-- an object of two values, and of three
pub two_values : (old a b c d e f : List Token) (k l : List ℕ) (v w : List Token)
    → a ≡ old ++ Token.begin_object ∷ [] → b ≡ a ++ Token.key k ∷ [] → c ≡ b ++ v → d ≡ c ++ Token.key l ∷ [] → e ≡ d ++ w → f ≡ e ++ Token.end_object ∷ []
    → f ≡ old ++ Token.begin_object ∷ Token.key k ∷ (v ++ Token.key l ∷ (w ++ Token.end_object ∷ []))
two_values old a b c d e f k l v w ea eb ec ed ee ef = rw (ef, ee, ed, ec, eb, ea) (simp append_assoc)

pub three_values : (old a b c d e f g h : List Token) (k l m : List ℕ) (u v w : List Token)
    → a ≡ old ++ Token.begin_object ∷ [] → b ≡ a ++ Token.key k ∷ [] → c ≡ b ++ u → d ≡ c ++ Token.key l ∷ [] → e ≡ d ++ v → f ≡ e ++ Token.key m ∷ [] → g ≡ f ++ w → h ≡ g ++ Token.end_object ∷ []
    → h ≡ old ++ Token.begin_object ∷ Token.key k ∷ (u ++ Token.key l ∷ (v ++ Token.key m ∷ (w ++ Token.end_object ∷ [])))
three_values old a b c d e f g h k l m u v w ea eb ec ed ee ef eg eh = rw (eh, eg, ef, ee, ed, ec, eb, ea) (simp append_assoc)

-- what stands behind the first bytes
pub behind_is : (n : ℕ) (xs : List ℕ) → take (length xs - n) (drop n xs) ≡ drop n xs
behind_is n xs = take_all (length xs - n) (drop n xs) (omega (arith, length-drop n xs))

-- a character more
pub character_more : (xs : List ℕ) (i : ℕ) (old new : List ℕ) → i < length xs → old ≡ encode_utf8_all (take i xs) → new ≡ old ++ encode_utf8 (get_or xs i 0) → new ≡ encode_utf8_all (take (i + 1) xs)
character_more xs i old new low so_far is =
    is
    ∙ ap (λ (l : List ℕ). l ++ encode_utf8 (get_or xs i 0)) so_far
    ∙ ap (λ (l : List ℕ). encode_utf8_all (take i xs) ++ l) (sym (append-nil (encode_utf8 (get_or xs i 0))))
    ∙ sym (encodes-append (take i xs) (get_or xs i 0 ∷ []))
    ∙ ap encode_utf8_all (sym (take_more xs i 0 low))
