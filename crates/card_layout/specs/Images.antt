-- Images, which are lists of bytes: the bytes at a place, other bytes at a place, and the number that bytes spell, the
-- highest first.
use Rattle.std.specs.Prelude.{◌≡◌, ℕ, ◌+◌, List, ◌++◌, length, take, drop}
pub use Rattle.byteorder.specs.Endian.{big_number, big_bytes}

-- the bytes of an image at a place
abbrev pub bytes_at : List ℕ → ℕ → ℕ → List ℕ
bytes_at image place len = take len (drop place image)

-- an image with other bytes at a place
abbrev pub put : ℕ → List ℕ → List ℕ → List ℕ
put place bytes image = take place image ++ (bytes ++ drop (place + length bytes) image)

-- two images that differ in this range alone
pub record SameOutside (place len : ℕ) (old new : List ℕ) : Type 0 where
  pub before : take place new ≡ take place old
  pub after : drop (place + len) new ≡ drop (place + len) old
  pub same_length : length new ≡ length old

-- the number that bytes spell
abbrev pub number : List ℕ → ℕ
number bytes = big_number (length bytes) bytes

-- the number in so many bytes of an image at a place
abbrev pub number_at : List ℕ → ℕ → ℕ → ℕ
number_at image place len = big_number len (bytes_at image place len)
