-- What is checked of a string of days, in order, and the place in the file of days where it first fails.
use Rattle.std.specs.Prelude.{ℕ, zero, suc, ◌+◌, ◌-◌, ◌/◌, ◌%◌, Bool, true, false, ◌&&◌, ◌||◌, Option, Some, None, List}
use Rattle.std.specs.Prelude.{[], ◌∷◌, ◌++◌, map, drop, nat_eq, nat_lt, nat_le, if◌then◌else◌}
use Rattle.card_model.specs.declared.lengths.TheConstants.{DAY_LEAST, DAY_MOST, DAYS_MOST}
use Rattle.tach_media.specs.Medium.{bytes_at}
use Rattle.activity_codec.specs.Words.{word_minute}
use Rattle.card_model.specs.Bytes.{number}
use Rattle.card_model.specs.Image.{StringShape, turned, spot, oldest_pointer, newest_pointer, circle_of}
use Rattle.card_model.specs.Walk.{words_of}

-- a check, and the place that is told where it fails
pub record Check : Type 0 where
  pub passes : Bool
  pub place : ℕ

-- the check that tells this place where it fails
abbrev pub check : Bool → ℕ → Check
check passes place = record { passes = passes; place = place }

-- the place of the first that fails
abbrev pub first_failing : List Check → Option ℕ
first_failing [] = None
first_failing (c ∷ cs) = if c.passes then first_failing cs else Some c.place

-- a pointer is even and lies in the string
abbrev pub is_pointer : (size p : ℕ) → Bool
is_pointer size p = nat_lt p size && nat_eq (p % 2) 0

-- even, of a day's length, and with the bytes before it not more than the string has
abbrev pub is_len : (size so_far len : ℕ) → Bool
is_len size so_far len = nat_eq (len % 2) 0 && nat_le DAY_LEAST len && nat_le len DAY_MOST && nat_le (so_far + len) size

-- the length of the day before; in the oldest day it is not looked at
abbrev pub is_previous : (so_far before previous : ℕ) → Bool
is_previous so_far before previous = nat_eq so_far 0 || nat_eq previous before

-- a midnight later than the day before
abbrev pub is_date : (before date : ℕ) → Bool
is_date before date = nat_eq (date % 86400) 0 && nat_lt before date

-- four decimal digits
abbrev pub is_decimal : ℕ → Bool
is_decimal n = nat_lt (n / 4096) 10 && nat_lt (n / 256 % 16) 10 && nat_lt (n / 16 % 16) 10 && nat_lt (n % 16) 10

-- The fields of a record before its words, each with its offset. So many bytes lie before it; the day before has this
-- length and date.
abbrev pub field_checks : (size so_far before date : ℕ) → (previous len this counter : ℕ) → List Check
field_checks size so_far before date previous len this counter =
    check (is_len size so_far len) 2 ∷ check (is_previous so_far before previous) 0 ∷ check (is_date date this) 4
    ∷ check (is_decimal counter) 8 ∷ []

-- The words, from this offset on. The first stands at this minute or later and below that one, each other not earlier
-- than the one before it, and below 1440.
abbrev pub word_checks : (offset from below : ℕ) → List ℕ → List Check
word_checks offset from below [] = []
word_checks offset from below (w ∷ ws) = check (nat_le from (word_minute w) && nat_lt (word_minute w) below) offset
    ∷ word_checks (offset + 2) (word_minute w) 1440 ws

-- a record: its fields, and its words, the first of them at minute 0
abbrev pub record_checks : (size so_far before date : ℕ) → List ℕ → List Check
record_checks size so_far before date bytes =
    let len : ℕ = number (bytes_at bytes 2 2) in
    field_checks size so_far before date (number (bytes_at bytes 0 2)) len (number (bytes_at bytes 4 4))
    (number (bytes_at bytes 8 2))
    ++ word_checks 12 0 1 (words_of ((len - 12) / 2) (drop 12 bytes))

-- the place in the file of days that lies so far behind the oldest day
abbrev pub file_place : (size oldest distance : ℕ) → ℕ
file_place size oldest distance = 4 + spot size oldest distance

-- the checks of the record that begins so far behind the oldest day
abbrev pub placed_checks : (size oldest so_far : ℕ) → List Check → List Check
placed_checks size oldest so_far checks = map (λ c. check c.passes (file_place size oldest (so_far + c.place))) checks

-- The days from so far behind the oldest on: each record, and that the next begins at the newest pointer or before it.
-- The bytes are the circle from here on; there are at most `most` days.
abbrev pub day_checks : (most size oldest far so_far before date : ℕ) → List ℕ → List Check
day_checks zero size oldest far so_far before date bytes = []
day_checks (suc most) size oldest far so_far before date bytes =
    let len : ℕ = number (bytes_at bytes 2 2) in
    placed_checks size oldest so_far (record_checks size so_far before date bytes)
    ++ (elim (nat_eq so_far far) as (λ _. List Check) [
      | true ↦ []
      | false ↦ check (nat_le (so_far + len) far) 2
          ∷ day_checks most size oldest far (so_far + len) len (number (bytes_at bytes 4 4)) (turned len bytes)
    ])

-- how far one place lies behind another, round the end
abbrev pub distance_of : (size from to : ℕ) → ℕ
distance_of size from to = (to + size - from) % size

-- no day: both pointers are equal, and the length there is 0
abbrev pub is_empty : StringShape → List ℕ → Bool
is_empty r x = nat_eq (oldest_pointer r x) (newest_pointer r x) && nat_eq (number (bytes_at (circle_of r x) 2 2)) 0

-- all checks in their order: the two pointers, and then the days from the oldest on
abbrev pub checks_of : StringShape → List ℕ → List Check
checks_of r x =
    let o : ℕ = oldest_pointer r x in
    let n : ℕ = newest_pointer r x in
    check (is_pointer r.size o) 0 ∷ check (is_pointer r.size n) 2
    ∷ (elim (is_empty r x) as (λ _. List Check)
    [ true ↦ [] | false ↦ day_checks DAYS_MOST r.size o (distance_of r.size o n) 0 0 0 (circle_of r x) ])

-- the place in the file of days where an image first fails, if it does
unfoldable pub first_bad : StringShape → List ℕ → Option ℕ
first_bad r x = first_failing (checks_of r x)
