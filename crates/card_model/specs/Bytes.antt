-- Numbers in bytes, high byte first, and decimal digits in half bytes.
use Rattle.std.specs.Prelude.{ℕ, ◌+◌, ◌*◌, ◌/◌, ◌%◌, List, [], ◌∷◌}
pub use Rattle.card_layout.specs.Images.{number}

-- the two bytes of a number below 256 ^ 2
abbrev pub two_bytes : ℕ → List ℕ
two_bytes n = n / 256 ∷ n % 256 ∷ []

-- the four bytes of a number below 256 ^ 4
abbrev pub four_bytes : ℕ → List ℕ
four_bytes n = n / 16777216 ∷ n / 65536 % 256 ∷ n / 256 % 256 ∷ n % 256 ∷ []

-- two decimal digits in a byte
abbrev pub decimal_byte : ℕ → ℕ
decimal_byte n = 16 * (n / 10) + n % 10

-- four decimal digits in two bytes
abbrev pub decimal_bytes : ℕ → List ℕ
decimal_bytes n = decimal_byte (n / 100) ∷ decimal_byte (n % 100) ∷ []

-- the number that four decimal digits spell
abbrev pub decimal : ℕ → ℕ
decimal n = 1000 * (n / 4096 % 16) + 100 * (n / 256 % 16) + 10 * (n / 16 % 16) + n % 16
