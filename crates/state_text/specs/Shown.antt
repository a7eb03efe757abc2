-- Bytes of a device as text that stands on a line (profile).
use Rattle.std.specs.Prelude.{ℕ, ◌/◌, ◌%◌, ◌==◌, ◌&&◌, not, nat_le, Bool, if◌then◌else◌, List, [], ◌∷◌}
use Rattle.std.specs.Prelude.{◌++◌}
use Rattle.std.specs.List.{flat_map}
use Rattle.hex.specs.Hex.{encode_lower}

-- a byte in front of others, but no space in front of none
abbrev pub in_front : ℕ → List ℕ → List ℕ
in_front b [] = if b == 32 then [] else b ∷ []
in_front b (c ∷ bytes) = b ∷ c ∷ bytes

-- without the spaces at the end
abbrev pub cut : List ℕ → List ℕ
cut [] = []
cut (b ∷ bytes) = in_front b (cut bytes)

-- a byte stands as it is: a printable character of ASCII, but no `\`
abbrev pub is_plain : ℕ → Bool
is_plain b = nat_le 0x20 b && nat_le b 0x7E && not (b == 92)

-- a byte by two hexadecimal digits, in lower case: `0a`
abbrev pub two_hex : ℕ → List ℕ
two_hex b = encode_lower (b ∷ [])

-- a number of two bytes by four: `0504`
abbrev pub four_hex : ℕ → List ℕ
four_hex n = two_hex (n / 256) ++ two_hex (n % 256)

-- a byte as it is, or as `\x` and two digits
abbrev pub byte_text : ℕ → List ℕ
byte_text b = if is_plain b then b ∷ [] else 92 ∷ 120 ∷ two_hex b

-- BYTES AS TEXT: without the spaces at the end, each byte as it is or as `\x` and two digits
abbrev pub shown : List ℕ → List ℕ
shown bytes = flat_map byte_text (cut bytes)
