-- The redo record behind an image: its places, and the image that it makes.
use Rattle.std.specs.Prelude.{◌≡◌, ℕ, ◌+◌, ◌-◌, ◌*◌, ◌/◌, ◌%◌, ◌≤◌, ◌==◌, nat_lt, nat_le, ◌&&◌, ◌||◌}
use Rattle.std.specs.Prelude.{if◌then◌else◌}
use Rattle.std.specs.Prelude.{Bool, true, false, List, length, take}
use Rattle.tach_media.specs.Medium.{bytes_at, put}
use Rattle.card_layout.specs.Images.{number_at}

-- The record stands in the first sector behind a memory of so many bytes: its gate (4), the bytes around a border
-- before the write (6), and behind it (6).
unfoldable pub record_place : ℕ → ℕ
record_place size = (size / 512 + 1) * 512

-- the gate: the number of the sector before whose border the write begins, counted from 1; any other number is shut
abbrev pub gate_of : ℕ → List ℕ → ℕ
gate_of size c = number_at c (record_place size) 4

unfoldable pub is_gate : ℕ → ℕ → Bool
is_gate size g = nat_lt 0 g && nat_le g (size / 512)

-- three bytes are those of one of two other places
unfoldable pub is_either : List ℕ → (now old new : ℕ) → Bool
is_either c now old new = (number_at c now 3 == number_at c old 3) || (number_at c now 3 == number_at c new 3)

-- on both sides of a border the bytes are the old or the new ones of the record
unfoldable pub is_matched : ℕ → List ℕ → (place : ℕ) → Bool
is_matched size c place = is_either c place (record_place size + 4) (record_place size + 10)
    && is_either c (place + 3) (record_place size + 7) (record_place size + 13)

-- where the six bytes around the border of a gate begin
abbrev pub window : ℕ → ℕ
window g = g * 512 - 3

-- a record is to be done again
unfoldable pub is_pending : ℕ → List ℕ → Bool
is_pending size c = is_gate size (gate_of size c) && is_matched size c (window (gate_of size c))

-- the bytes that it writes
abbrev pub new_bytes : ℕ → List ℕ → List ℕ
new_bytes size c = bytes_at c (record_place size + 10) 6

-- THE MEMORY THAT A DISK HOLDS: its front, with a record that is to be done laid over it
unfoldable pub recovered : ℕ → List ℕ → List ℕ
recovered size c = take size (if is_pending size c then put (window (gate_of size c)) (new_bytes size c) c else c)

-- a gate that is shut
abbrev pub IsShut : ℕ → List ℕ → Type 0
IsShut size c = is_gate size (gate_of size c) ≡ false

-- A record is to be done that writes these bytes here.
pub record IsOpen (size place : ℕ) (bytes c : List ℕ) : Type 0 where
  pub pending : is_pending size c ≡ true
  pub here : place ≡ window (gate_of size c)
  pub these : bytes ≡ new_bytes size c

-- six bytes lie around a border inside the memory
pub record IsAround (size place : ℕ) : Type 0 where
  pub border : place % 512 ≡ 509
  pub inside : place + 6 ≤ record_place size

-- A record stands behind a shut gate that is to write these bytes around a border.
pub record IsReady (size at place : ℕ) (bytes after c : List ℕ) : Type 0 where
  pub shut : IsShut size c
  pub six : length after ≡ 6
  pub old : bytes_at c (record_place size + 4) 6 ≡ bytes_at c at 6
  pub new : bytes_at c (record_place size + 10) 6 ≡ after
  pub made : after ≡ put (place - at) bytes (bytes_at c at 6)

-- The side before the border is written, and the record is still to be done.
pub record IsHalfDone (size place : ℕ) (bytes c : List ℕ) : Type 0 where
  pub opened : IsOpen size place bytes c
  pub left : bytes_at c place 3 ≡ take 3 bytes
