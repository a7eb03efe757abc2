-- The days of a string as a function of its bytes: a walk from the oldest to the newest by the lengths.
use Rattle.std.specs.Prelude.{ℕ, zero, suc, ◌+◌, ◌-◌, ◌/◌, ◌%◌, List, [], ◌∷◌, length, take, drop, nat_lt}
use Rattle.std.specs.Prelude.{if◌then◌else◌}
use Rattle.card_model.specs.declared.lengths.TheConstants.{DAYS_MOST}
use Rattle.tach_media.specs.Medium.{bytes_at}
use Rattle.card_model.specs.Bytes.{number, decimal}
use Rattle.card_model.specs.Days.{Day}
use Rattle.card_model.specs.Image.{StringShape, oldest_pointer, newest_pointer, circle_of}

-- the numbers of so many pairs of bytes
abbrev pub words_of : ℕ → List ℕ → List ℕ
words_of zero bytes = []
words_of (suc count) bytes = number (take 2 bytes) ∷ words_of count (drop 2 bytes)

-- the day that a record tells
abbrev pub day_told : List ℕ → Day
day_told bytes =
    record {
      date = number (bytes_at bytes 4 4);
      counter = decimal (number (bytes_at bytes 8 2));
      km = number (bytes_at bytes 10 2);
      words = words_of ((length bytes - 12) / 2) (drop 12 bytes);
    }

-- the days whose records stand one after the other, the last of them so far from the front; at most `most`
abbrev pub days_in : (most far : ℕ) → List ℕ → List Day
days_in zero far bytes = []
days_in (suc most) far bytes =
    let len : ℕ = number (bytes_at bytes 2 2) in
    let later : List Day = days_in most (far - len) (drop len bytes) in
    if nat_lt len 14 then [] else (if nat_lt far len then day_told (take len bytes) ∷ [] else day_told (take len bytes)
    ∷ later)

-- the days of an image, where it holds days
unfoldable pub days_of : StringShape → List ℕ → List Day
days_of r x = days_in DAYS_MOST ((newest_pointer r x + r.size - oldest_pointer r x) % r.size) (circle_of r x)
