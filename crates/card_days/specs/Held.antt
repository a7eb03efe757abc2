-- What is kept of a string between two calls on it, and when it is what an image tells.
use Rattle.std.specs.Prelude.{◌≡◌, ℕ, ◌+◌, ◌-◌, ◌*◌, ◌%◌, ◌<◌, ◌≤◌, List, [], ◌∷◌, Option, Some, None, if◌then◌else◌}
use Rattle.std.specs.Prelude.{◌==◌}
use Rattle.card_model.specs.Days.{Day, total, last_word}
use Rattle.card_model.specs.Image.{StringShape, IsStringShape, IsPointer, HoldsDays, newest_pointer, spot}
use Rattle.card_days.specs.declared.head.DayHead.{DayHead}
use Rattle.card_days.specs.declared.head.Tail.{Tail}
use Rattle.card_days.specs.Heads.{day_head}

-- Where the string lies, and its tail: the head of the newest day, that day's latest word, and how many bytes the days
-- have. Where these are none there is no day, and the next one begins at the head's place.
pub record Held : Type 0 where
  pub shape : StringShape
  pub tail : Tail

-- what is kept is within the bounds of a string, whatever the image tells
pub record IsInBounds (v : Held) : Type 0 where
  pub shape : IsStringShape v.shape
  pub pointer : IsPointer v.shape.size v.tail.head.place
  pub few : v.tail.head.words ≤ 1440
  pub most : v.tail.used ≤ v.shape.size
  pub even : v.tail.used % 2 ≡ 0

-- the length of the newest day, 0 without one
abbrev pub newest_len : Held → ℕ
newest_len v = if v.tail.used == 0 then 0 else 12 + 2 * v.tail.head.words

-- the place behind the newest day
abbrev pub end_of : Held → ℕ
end_of v = spot v.shape.size v.tail.head.place (newest_len v)

-- where the oldest day begins, if the days have so many bytes
abbrev pub oldest_at : Held → ℕ → ℕ
oldest_at v used = spot v.shape.size (end_of v) (v.shape.size - used)

-- the newest of these days, if there is one, has this head and this latest word
abbrev pub IsNewestHead : DayHead → ℕ → List Day → Type 0
IsNewestHead h w [] = Unit {0}
IsNewestHead h w (d ∷ []) = (h ≡ day_head h.place d) × (w ≡ last_word d.words)
IsNewestHead h w (d ∷ e ∷ ds) = IsNewestHead h w (e ∷ ds)

-- By value: there is a newest day, of this date, and this is its latest word.
pub record EndsWith (v : Held) (date word : ℕ) : Type 0 where
  pub some : 0 < v.tail.used
  pub date_is : v.tail.head.date.0 ≡ date
  pub word_is : v.tail.latest ≡ word

-- The image holds these days, and what is kept is what it tells of the newest of them.
pub record Knows (v : Held) (x : List ℕ) (days : List Day) : Type 0 where
  pub holds : HoldsDays v.shape x days
  pub place : v.tail.head.place ≡ newest_pointer v.shape x
  pub used : v.tail.used ≡ total days
  pub newest : IsNewestHead v.tail.head v.tail.latest days

-- the string's tail, by what is kept
abbrev pub tail_of : Held → Option Tail
tail_of v = if v.tail.used == 0 then None else Some v.tail

-- the newest day's head and last word, and the sum of the lengths; nothing where there is no day
abbrev pub tail_by : (place used : ℕ) → List Day → Option Tail
tail_by place used [] = None
tail_by place used (d ∷ []) = Some (record { head = day_head place d; latest = last_word d.words; used = used })
tail_by place used (d ∷ e ∷ ds) = tail_by place used (e ∷ ds)

-- the tail of the string in an image that holds these days
abbrev pub tail_in : StringShape → List ℕ → List Day → Option Tail
tail_in r x days = tail_by (newest_pointer r x) (total days) days
