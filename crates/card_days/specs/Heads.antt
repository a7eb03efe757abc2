-- The heads of the days of a string, and what the walks over them answer.
use Rattle.std.specs.Prelude.{◌≡◌, ℕ, ◌+◌, ◌-◌, ◌/◌, List, [], ◌∷◌, ◌++◌, length, Option, Some, None, slice_get}
use Rattle.std.specs.List.{last_or}
use Rattle.card_model.specs.Bytes.{two_bytes, four_bytes, decimal}
use Rattle.card_model.specs.Days.{Day, len_of, total}
use Rattle.card_model.specs.Image.{StringShape, spot, oldest_pointer, IsAt}
use Rattle.card_days.specs.declared.head.DayHead.{DayHead}
use Rattle.card_days.specs.declared.head.RecordHead.{RecordHead}

-- the twelve bytes of a record before its words
abbrev pub head_bytes : RecordHead → List ℕ
head_bytes h = two_bytes h.previous
    ++ (two_bytes h.len ++ (four_bytes h.date ++ (two_bytes h.counter ++ two_bytes h.km)))

-- the head of a day that these bytes tell
abbrev pub day_head_of : RecordHead → ℕ → DayHead
day_head_of h place =
    record {
      place = place;
      date = record { 0 = h.date };
      counter = record { 0 = decimal h.counter };
      km = record { 0 = h.km };
      words = (h.len - 12) / 2;
    }

-- the head of a day at a place
abbrev pub day_head : ℕ → Day → DayHead
day_head place d = record {
  place = place;
  date = record { 0 = d.date };
  counter = record { 0 = d.counter };
  km = record { 0 = d.km };
  words = length d.words;
}

-- the heads of days that stand one after the other, the first so far behind the oldest pointer
abbrev pub heads_from : StringShape → List ℕ → ℕ → List Day → List DayHead
heads_from r x so_far [] = []
heads_from r x so_far (d ∷ ds) = day_head (spot r.size (oldest_pointer r x) so_far) d
    ∷ heads_from r x (so_far + len_of d) ds

-- the heads of all days, oldest first
abbrev pub heads_of : StringShape → List ℕ → List Day → List DayHead
heads_of r x days = heads_from r x 0 days

-- the heads of the days before one that is there
abbrev pub older_heads : (r : StringShape) (x : List ℕ) (p : ℕ) (d : Day) → IsAt r x p d → List DayHead
older_heads r x p d here = heads_from r x 0 here.older

-- the heads of the days after it
abbrev pub later_heads : (r : StringShape) (x : List ℕ) (p : ℕ) (d : Day) → IsAt r x p d → List DayHead
later_heads r x p d here = heads_from r x (total here.older + len_of d) here.later

-- what `after` answers on an image for the head of a day that is there: the first of the later heads
abbrev pub IsAfter : StringShape → List ℕ → DayHead → Option DayHead → Type 0
IsAfter r x head answer = (d : Day) (here : IsAt r x head.place d)
    → answer ≡ slice_get (later_heads r x head.place d here) 0

-- what `before` answers for it: the last of the older heads
abbrev pub IsBefore : StringShape → List ℕ → DayHead → Option DayHead → Type 0
IsBefore r x head answer = (d : Day) (here : IsAt r x head.place d)
    → answer ≡ last_or None (older_heads r x head.place d here)

-- a walk gives these heads: it begins with an answer, and goes on with the next, to the end
abbrev pub IsWalk : (DayHead → Option DayHead → Type 0) → Option DayHead → List DayHead → Type 0
IsWalk next answer [] = answer ≡ None
IsWalk next answer (h ∷ hs) = (answer ≡ Some h) × ((o : Option DayHead) → next h o → IsWalk next o hs)
