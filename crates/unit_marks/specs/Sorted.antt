-- Midnights by their dates, of a date that is told twice the first telling.
use Rattle.std.specs.Prelude.{ℕ, ◌+◌, nat_lt, if◌then◌else◌, List, [], ◌∷◌}
use Rattle.unit_marks.specs.declared.marks.Midnight.{Midnight}

-- of midnights by their dates the first of each date, from this least date on
abbrev pub firsts_from : (least : ℕ) → List Midnight → List Midnight
firsts_from least [] = []
firsts_from least (day ∷ days) =
    if nat_lt day.date least then firsts_from least days else day ∷ firsts_from (day.date + 1) days
