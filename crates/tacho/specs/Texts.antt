-- Words of the command line (profile).
use Rattle.std.specs.Prelude.{ℕ, ◌==◌, ◌&&◌, not, nat_le, Bool, false, if◌then◌else◌, Option, Some, None, List, [], ◌∷◌}
use Rattle.std.specs.Prelude.{length, decimal, bytes_eq}
use Rattle.std.specs.List.{list_all}
use Rattle.std.specs.Str.Parse.{digits_value}

-- a character of a word: ASCII 21 to 7E
abbrev pub is_character : ℕ → Bool
is_character c = nat_le 0x21 c && nat_le c 0x7E

-- the first character of a word is `-`
abbrev pub begins_with_dash : List ℕ → Bool
begins_with_dash [] = false
begins_with_dash (c ∷ text) = c == 45

-- whether a word has so many characters, the first of which is no `-`
abbrev pub is_word : (least most : ℕ) → List ℕ → Bool
is_word least most text =
    nat_le least (length text) && nat_le (length text) most && not (begins_with_dash text) && list_all is_character text

-- a word of so many characters
abbrev pub word_in : (least most : ℕ) → List ℕ → Option (List ℕ)
word_in least most text = if is_word least most text then Some text else None

-- the number in this range that a word spells, without a sign or a leading zero: it is spelled as it is written
unfoldable pub number_in : (least most : ℕ) → List ℕ → Option ℕ
number_in least most text =
    let n = digits_value 10 text in
    if nat_le least n && nat_le n most && bytes_eq (decimal n) text then Some n else None
