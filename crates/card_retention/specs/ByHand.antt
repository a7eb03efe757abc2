-- The words of a card's days with entries by hand: each counts as one word of its day (profile).
use Rattle.std.specs.Prelude.{ℕ, ◌+◌, ◌/◌, None, List, [], ◌∷◌, ◌++◌, nat_eq, if◌then◌else◌}
use Rattle.activity_codec.specs.declared.entries.Manual.{Manual}
use Rattle.card_retention.specs.Expected.{WordDay, Counted, more, is_newest, closes, first_words}
use Rattle.card_retention.specs.Retains.{is_day}

-- one entry by hand more, behind the closing word of the entry that came last: a word more on its day, or its day
abbrev pub with_by_hand : (covered : ℕ) → Counted → (minute : ℕ) → Counted
with_by_hand covered c minute =
    record {
      days = if is_newest (minute / 1440) (closes covered c.before minute c.days)
          then more (closes covered c.before minute c.days)
          else closes covered c.before minute c.days ++ record { day = minute / 1440; words = first_words minute } ∷ [];
      before = None;
    }

-- how many of these entries are of a day
abbrev pub on_day : ℕ → List Manual → ℕ
on_day day [] = 0
on_day day (e ∷ es) = if nat_eq (e.minute / 1440) day then on_day day es + 1 else on_day day es

-- the days with a word more for each entry by hand of their day
abbrev pub and_by_hand : List Manual → List WordDay → List WordDay
and_by_hand es [] = []
and_by_hand es (d ∷ ds) = record d { words = d.words + on_day d.day es } ∷ and_by_hand es ds

-- the entries by hand whose day is one of these
abbrev pub hands_in : List WordDay → List Manual → List Manual
hands_in days [] = []
hands_in days (e ∷ es) = if is_day (e.minute / 1440) days then e ∷ hands_in days es else hands_in days es
