-- The bytes of a line, one after the other.
use Rattle.std.proofs.Common.{◌≡◌, ℕ, ◌<◌, ◌≤◌, List, [], ◌∷◌, ◌++◌, length, take, drop, length-drop, ◌-◌, refl, sym, ◌∙◌, ap, arith}
use Rattle.std.proofs.Math.Seq.{take-length}
use Rattle.std.specs.Prelude.{Option, None, option_map, slice_index}
use Rattle.text_fields.specs.Lines.{some_bytes, behind_byte, byte_of, in_front, line_bytes}

-- a line that begins with two characters
pub two_first : (text : List ℕ) → 2 ≤ length text → line_bytes text ≡ in_front (byte_of (slice_index text 0) (slice_index text 1)) (behind_byte (drop 2 text))
unfolding some_bytes
two_first (high ∷ low ∷ []) long = refl
two_first (high ∷ low ∷ c ∷ rest) long = refl
two_first [] long = absurd (omega (arith, long))
two_first (c ∷ []) long = absurd (omega (arith, long))

pub one_alone : (text : List ℕ) → 0 < length text → length text < 2 → line_bytes text ≡ None
unfolding some_bytes
one_alone (c ∷ []) some short = refl
one_alone [] some short = absurd (omega (arith, some))
one_alone (c ∷ d ∷ text) some short = absurd (omega (arith, short))

pub space_alone : (text : List ℕ) → 0 < length text → length text < 2 → slice_index text 0 ≡ 32 → behind_byte text ≡ None
unfolding some_bytes
space_alone (c ∷ []) some short is = grind (arith, is)
space_alone [] some short is = absurd (omega (arith, some))
space_alone (c ∷ d ∷ text) some short is = absurd (omega (arith, short))

-- all that stands behind the first two
pub all_behind : (text : List ℕ) → take (length text - 2) (drop 2 text) ≡ drop 2 text
all_behind text = ap (λ (n : ℕ). take n (drop 2 text)) (sym (length-drop 2 text)) ∙ take-length (drop 2 text)

-- bytes that were read, and those that the rest spells
abbrev pub with_read : List ℕ → Option (List ℕ) → Option (List ℕ)
with_read done rest = option_map (λ more. done ++ more) rest
