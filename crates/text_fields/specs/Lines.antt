-- Lines of hexadecimal digits (profile).
use Rattle.std.specs.Prelude.{◌≡◌, ℕ, ◌+◌, ◌*◌, ◌==◌, if◌then◌else◌, Option, Some, None, List, [], ◌∷◌}
use Rattle.hex.specs.Hex.{hex_digit_value}
use Rattle.text_fields.specs.declared.reading.LineFault.{LineFault}
use Rattle.text_fields.specs.declared.reading.LineFault.TheVariants.{Bad, Memory}

-- the byte of two digits' values
abbrev pub byte_of_values : Option ℕ → Option ℕ → Option ℕ
byte_of_values (Some high) (Some low) = Some (16 * high + low)
byte_of_values (Some high) None = None
byte_of_values None low = None

-- the byte that two digits spell, of either case
abbrev pub byte_of : (high low : ℕ) → Option ℕ
byte_of high low = byte_of_values (hex_digit_value high) (hex_digit_value low)

-- a byte in front of others, where both are spelled
abbrev pub in_front : Option ℕ → Option (List ℕ) → Option (List ℕ)
in_front (Some byte) (Some bytes) = Some (byte ∷ bytes)
in_front (Some byte) None = None
in_front None bytes = None

-- the bytes that a text spells, one or more: two digits each, and where a space stands between two bytes it is passed
-- over
unfoldable pub some_bytes : List ℕ → Option (List ℕ)
some_bytes [] = None
some_bytes (high ∷ []) = None
some_bytes (high ∷ low ∷ []) = in_front (byte_of high low) (Some [])
some_bytes (high ∷ low ∷ c ∷ rest) = in_front (byte_of high low)
    (if c == 32 then some_bytes rest else some_bytes (c ∷ rest))

-- the bytes that stand behind one: none, or one or more, behind a space or not
abbrev pub behind_byte : List ℕ → Option (List ℕ)
behind_byte [] = Some []
behind_byte (c ∷ rest) = if c == 32 then some_bytes rest else some_bytes (c ∷ rest)

-- THE BYTES OF A LINE, of which there may be none
abbrev pub line_bytes : List ℕ → Option (List ℕ)
line_bytes [] = Some []
line_bytes (c ∷ rest) = some_bytes (c ∷ rest)

-- why a line was not read: it spells no bytes, or memory ran out
abbrev pub IsFaultOf : List ℕ → LineFault → Type 0
IsFaultOf line Bad = line_bytes line ≡ None
IsFaultOf line Memory = Unit {0}
