-- The days that a card's flat image holds: in the file of days two pointers, and a circle of bytes.
use Rattle.std.specs.Prelude.{◌≡◌, ◌⊎◌, ℕ, ◌+◌, ◌-◌, ◌%◌, ◌<◌, ◌≤◌, ◌^◌, List, [], ◌∷◌, ◌++◌, take, drop, nat_lt}
use Rattle.std.specs.Prelude.{if◌then◌else◌}
use Rattle.card_layout.specs.declared.files.TheConstants.{STRING_LEAST, STRING_MOST}
use Rattle.tach_media.specs.Medium.{bytes_at}
use Rattle.card_model.specs.Bytes.{number}
use Rattle.card_model.specs.Days.{Day, total, far, records, AreDays}

-- where the file of days begins in the image, and how long its string is
pub record StringShape : Type 0 where
  pub base : ℕ
  pub size : ℕ

-- the lengths that a card may have
pub record IsStringShape (r : StringShape) : Type 0 where
  pub even : r.size % 2 ≡ 0
  pub low : STRING_LEAST ≤ r.size
  pub high : r.size ≤ STRING_MOST
  pub short : r.base + (4 + r.size) < 2 ^ 32

-- a circle of bytes, read once round from a place on
abbrev pub turned : ℕ → List ℕ → List ℕ
turned place circle = drop place circle ++ take place circle

-- the pointer to the oldest day
abbrev pub oldest_pointer : StringShape → List ℕ → ℕ
oldest_pointer r x = number (bytes_at x r.base 2)

-- the pointer to the newest day
abbrev pub newest_pointer : StringShape → List ℕ → ℕ
newest_pointer r x = number (bytes_at x (r.base + 2) 2)

-- the bytes of the string, behind both pointers
abbrev pub string_of : StringShape → List ℕ → List ℕ
string_of r x = bytes_at x (r.base + 4) r.size

-- the string from the oldest day on
abbrev pub circle_of : StringShape → List ℕ → List ℕ
circle_of r x = turned (oldest_pointer r x) (string_of r x)

-- a place of the string in the image
abbrev pub at : StringShape → ℕ → ℕ
at r p = r.base + 4 + p

-- a pointer into the string
pub record IsPointer (size p : ℕ) : Type 0 where
  pub below : p < size
  pub even : p % 2 ≡ 0

-- p lies so far behind a place, round the end
abbrev pub IsPlace : (size from distance p : ℕ) → Type 0
IsPlace size from distance p = (p ≡ from + distance) ⊎ (p + size ≡ from + distance)

-- the place so far behind another, round the end
abbrev pub spot : (size from distance : ℕ) → ℕ
spot size from distance = if nat_lt (from + distance) size then from + distance else from + distance - size

-- The image holds these days: once round from the oldest pointer their records stand one after the other, the last at
-- the newest pointer.
pub record HoldsDays (r : StringShape) (x : List ℕ) (days : List Day) : Type 0 where
  pub oldest : IsPointer r.size (oldest_pointer r x)
  pub newest : IsPointer r.size (newest_pointer r x)
  pub distance : IsPlace r.size (oldest_pointer r x) (far days) (newest_pointer r x)
  pub previous : ℕ
  pub rest : List ℕ
  pub spelled : circle_of r x ≡ records previous days ++ rest
  pub empty : days ≡ [] → number (bytes_at (circle_of r x) 2 2) ≡ 0
  pub ordered : AreDays 0 days

-- a day that is there begins at this place
pub record IsAt (r : StringShape) (x : List ℕ) (p : ℕ) (d : Day) : Type 0 where
  pub older : List Day
  pub later : List Day
  pub holds : HoldsDays r x (older ++ d ∷ later)
  pub pointer : IsPointer r.size p
  pub place : IsPlace r.size (oldest_pointer r x) (total older) p
