-- What is found out about each entry of a card file, one use and one line of the unit file after another.
use Rattle.std.specs.Prelude.{◌≡◌, ℕ, ◌+◌, ◌&&◌, nat_le, Bool, true, false, Option, Some, None, List, [], ◌∷◌}
use Rattle.std.specs.Prelude.{if◌then◌else◌}
use Rattle.std.specs.List.{list_any}
use Rattle.std.specs.List.Sorted.{IsNonDecreasingBy}
use Rattle.activity_codec.specs.declared.entries.Entry.{Entry}
use Rattle.view_model.specs.declared.UnitShown.{UnitShown}
use Rattle.view_model.specs.declared.Viewed.{Viewed}
use Rattle.view_model.specs.declared.Line.{Line}
use Rattle.view_model.specs.Lines.{day_of_minute}
use Rattle.unit_model.specs.Days.{UnitMinute}
use Rattle.file_view.specs.Histories.{minute_shown, minute_told}
use Rattle.card_match.specs.Matching.{Against, is_within, is_own, minute_at, is_before, is_tested, stands}
use Rattle.card_match.specs.Differences.{instead_of}
use Rattle.card_match.specs.declared.cases.Use.{Use}
use Rattle.card_match.specs.declared.cases.Case.{Case}
use Rattle.card_match.specs.declared.difference.Instead.{Instead}
use Rattle.card_match.specs.declared.difference.Instead.TheVariants.{NoMinute}
use Rattle.card_match.specs.declared.difference.Difference.{Difference}
use Rattle.card_match.specs.declared.verdict.Sort.{Sort}
use Rattle.card_match.specs.declared.verdict.Sort.TheVariants.{Other, Before, Standing, Missed}
use Rattle.card_match.specs.declared.verdict.Counts.{Counts}

-- a minute of a line as the unit file tells it
abbrev pub minute_of : UnitShown → ℕ → UnitMinute
minute_of shown minute = minute_told (record { minute = minute; shown = shown })

-- what the unit file shows of a minute, if it has that
abbrev pub shown_of : Option UnitMinute → Option UnitShown
shown_of None = None
shown_of (Some m) = Some (minute_shown m).shown

-- an entry of which nothing is known yet
abbrev pub fresh : Entry → Case
fresh e = record { entry = e; own = false; seen = None }

-- an entry by these uses and these minutes
abbrev pub case_of : Against → Entry → Case
case_of a e = record { entry = e; own = is_own a e; seen = shown_of (minute_at a.minutes e.minute) }

-- a case after one use more
abbrev pub with_use : Use → Case → Case
with_use u c = if is_within c.entry.minute u then record { entry = c.entry; own = true; seen = c.seen } else c

-- what was seen first
abbrev pub first_seen : Option UnitShown → Option UnitShown → Option UnitShown
first_seen None later = later
first_seen (Some shown) later = Some shown

-- the minutes of a line as a use
abbrev pub line_use : Line UnitShown → Use
line_use line = record { first = line.first; last = line.last }

-- a case after one line of the unit file more
abbrev pub with_line : Line UnitShown → Case → Case
with_line line c =
    if is_within c.entry.minute (line_use line)
    then record { entry = c.entry; own = c.own; seen = first_seen c.seen (Some line.shown) }
    else c

-- the minute of a case
abbrev pub minute_of_case : Case → ℕ
minute_of_case c = c.entry.minute

-- the cases rise by their minutes
abbrev pub AreRising : List Case → Type 0
AreRising cases = IsNonDecreasingBy minute_of_case cases

-- whether some minute of these lies on a day or an earlier one
abbrev pub begins_by : List UnitMinute → ℕ → Bool
begins_by minutes day = list_any (λ m. nat_le (day_of_minute m.minute) day) minutes

-- the same by their first day
abbrev pub is_from : Option ℕ → ℕ → Bool
is_from None day = false
is_from (Some first) day = nat_le first day

-- the same of a line
abbrev pub line_from : Line UnitShown → ℕ → Bool
line_from line day = nat_le line.first line.last && nat_le (day_of_minute line.first) day

-- an entry is of another vehicle, before the unit file, or tested; and then it stands, or does not
abbrev pub IsSort : Against → Entry → Sort → Type 0
IsSort a e Other = is_own a e ≡ false
IsSort a e Before = is_before a e ≡ true
IsSort a e Standing = (is_tested a e ≡ true) × (stands a e ≡ true)
IsSort a e Missed = (is_tested a e ≡ true) × (stands a e ≡ false)

-- one entry more
abbrev pub counted : Counts → Sort → Counts
counted c Other = record { tested = c.tested; other = c.other + 1; before = c.before }
counted c Before = record { tested = c.tested; other = c.other; before = c.before + 1 }
counted c Standing = record { tested = c.tested + 1; other = c.other; before = c.before }
counted c Missed = record { tested = c.tested + 1; other = c.other; before = c.before }

-- how many entries were counted
abbrev pub total : Counts → ℕ
total c = c.tested + (c.other + c.before)

-- an entry is tested and does not stand
abbrev pub is_missed : Sort → Bool
is_missed Missed = true
is_missed _ = false

-- what a minute that shows so has in place of an entry
abbrev pub instead_seen : Entry → Option UnitShown → Instead
instead_seen e None = NoMinute
instead_seen e (Some shown) = instead_of e (Some (minute_of shown e.minute))

-- how a case differs
abbrev pub difference_in : Case → Viewed Difference
difference_in c = record {
  minute = c.entry.minute;
  shown = record { slot = c.entry.slot; act = c.entry.act; instead = instead_seen c.entry c.seen };
}

-- the difference of a case, if it is missed
abbrev pub differing : Case → Sort → List (Viewed Difference)
differing c sort = if is_missed sort then difference_in c ∷ [] else []
