-- A card file whose two pointers to days are set anew, so that its days are whole ones (profile).
use Rattle.std.specs.Prelude.{◌≡◌, ℕ, zero, suc, ◌+◌, ◌-◌, ◌%◌, ◌<◌, ◌≤◌, nat_eq, nat_le, if◌then◌else◌}
use Rattle.std.specs.Prelude.{Bool, true, false, ◌||◌, not}
use Rattle.std.specs.Prelude.{List, [], ◌∷◌, ◌++◌, length, take, drop, slice_index}
use Rattle.card_layout.specs.Images.{number_at, bytes_at}
use Rattle.card_model.specs.Bytes.{two_bytes}
use Rattle.card_model.specs.declared.lengths.TheConstants.{DAYS_MOST}
use Rattle.file_view.specs.declared.fault.ViewFault.{ViewFault}
use Rattle.file_view.specs.declared.fault.ViewFault.TheVariants.{BadFile, Memory}
use Rattle.file_extract.specs.declared.odd_days.Pointed.{Pointed}
use Rattle.file_extract.specs.Judged.{IsWhole}

-- memory ran out
abbrev pub is_memory : ViewFault → Bool
is_memory (BadFile place) = false
is_memory Memory = true

-- the file with these pointers to the oldest day and to the newest, which stand at a place
abbrev pub pointed : (at oldest newest : ℕ) → List ℕ → List ℕ
pointed at oldest newest bytes = take at bytes ++ (two_bytes oldest ++ (two_bytes newest ++ drop (at + 4) bytes))

-- no day stands before one that tells this length of it
abbrev pub is_first_day : (size previous : ℕ) → Bool
is_first_day size previous = nat_eq previous 0 || not (nat_le previous size)

-- The places of days in a string of so many bytes, from one place back by the lengths that the days tell of those
-- before them; at most so many.
unfoldable pub places_back : (most size place : ℕ) → List ℕ → List ℕ
places_back zero size place string = []
places_back (suc most) size place string =
    let previous : ℕ = number_at string place 2 in
    if nat_le (place + 2) (length string) then place ∷ (if is_first_day size previous then []
    else places_back most size ((place + size - previous) % size) string) else []

-- the file whose days are those from one of these places to another, each by its number
abbrev pub from_to : (at : ℕ) → List ℕ → (oldest newest : ℕ) → List ℕ → List ℕ
from_to at places oldest newest bytes = pointed at (slice_index places oldest) (slice_index places newest) bytes

-- the newest of these places whose day is whole by itself
pub record IsNewestWhole (at : ℕ) (places : List ℕ) (bytes : List ℕ) (i : ℕ) : Type 0 where
  pub inside : i < length places
  pub whole : IsWhole (from_to at places i i bytes)
  pub none_newer : (k : ℕ) → k < i → IsWhole (from_to at places k k bytes) → ⊥

-- the oldest day to which the days from that one back are whole together
pub record IsOldestWhole (at : ℕ) (places : List ℕ) (bytes : List ℕ) (newest oldest : ℕ) : Type 0 where
  pub behind : newest ≤ oldest
  pub inside : oldest < length places
  pub whole : (k : ℕ) → newest ≤ k → k ≤ oldest → IsWhole (from_to at places k newest bytes)
  pub ends : oldest + 1 < length places → IsWhole (from_to at places (oldest + 1) newest bytes) → ⊥

-- the pointer to the newest day
abbrev pub newest_at : (at : ℕ) → List ℕ → ℕ
newest_at at bytes = number_at bytes (at + 2) 2

-- the places of the days of a file, whose pointers stand at a place, and behind them a string of so many bytes
abbrev pub places_in : (most at size : ℕ) → List ℕ → List ℕ
places_in most at size bytes = places_back most size (newest_at at bytes) (bytes_at bytes (at + 4) size)

-- The pointers are set to the newest of these days that is whole by itself, and to the oldest one to which the days
-- from that one back are whole together. Nothing else is changed, and the file is a card file.
pub record IsPointed (at : ℕ) (places : List ℕ) (bytes : List ℕ) (made : Pointed) : Type 0 where
  pub newest : IsNewestWhole at places bytes made.newest
  pub oldest : IsOldestWhole at places bytes made.newest made.oldest
  pub bytes_are : made.bytes.items ≡ from_to at places made.oldest made.newest bytes
  pub whole : IsWhole made.bytes.items

-- of the days that are reached from the newest
abbrev pub IsPointedAnew : (at size : ℕ) → List ℕ → Pointed → Type 0
IsPointedAnew at size bytes made = IsPointed at (places_in DAYS_MOST at size bytes) bytes made
