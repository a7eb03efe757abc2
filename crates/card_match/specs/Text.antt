-- The text of the answer to a match (profile).
use Rattle.std.specs.Prelude.{◌≡◌, ℕ, ◌<◌, not, Bool, List, [], ◌∷◌, ◌++◌, codes, decimal}
use Rattle.std.specs.List.{AllByRecursion}
use Rattle.activity_codec.specs.Names.{slot_name, activity_name}
use Rattle.activity_codec.specs.declared.values.Activity.{Activity}
use Rattle.activity_codec.specs.declared.values.Slot.{Slot}
use Rattle.calendar_days.specs.Calendar.{IsDateText}
use Rattle.calendar_days.specs.Clock.{clock_text}
use Rattle.tacho_types.specs.declared.calendar.TheConstants.{DAYS}
use Rattle.view_model.specs.Lines.{day_of_minute}
use Rattle.view_text.specs.Text.{crew_word, line_text}
use Rattle.view_model.specs.declared.Line.{Line}
use Rattle.card_match.specs.declared.verdict.Matched.{Matched}
use Rattle.card_match.specs.declared.verdict.Matched.TheVariants.{Yes, No}
use Rattle.card_match.specs.declared.verdict.Counts.{Counts}
use Rattle.card_match.specs.declared.verdict.Differences.{Differences}
use Rattle.card_match.specs.declared.difference.Instead.{Instead}
use Rattle.card_match.specs.declared.difference.Instead.TheVariants.{NoMinute, NoCard, Doing, Crew}
use Rattle.card_match.specs.declared.difference.Difference.{Difference}

-- the minute that differs lies on a day that a time of four bytes can name
abbrev pub IsDated : Matched → Type 0
IsDated (Yes tested other before) = Unit {0}
IsDated (No minute slot) = day_of_minute minute < DAYS

-- what is counted, and how many: `tested 58`
abbrev pub count_line : List ℕ → ℕ → List ℕ
count_line name count = name ++ codes " " ++ decimal count ++ codes "\n"

-- what stands behind the date: ` HH:MM SLOT`
abbrev pub place_words : ℕ → Slot → List ℕ
place_words minute slot = codes " " ++ clock_text minute ++ codes " " ++ slot_name slot ++ codes "\n"

-- `match` and three lines of counts; or `differs DATE HH:MM SLOT`
abbrev pub IsMatchText : Matched → List ℕ → Type 0
IsMatchText (Yes tested other before) text =
    text ≡ codes "match\n" ++ count_line (codes "tested") tested ++ count_line (codes "other") other
    ++ count_line (codes "before") before
IsMatchText (No minute slot) text = (date : List ℕ) × IsDateText (day_of_minute minute) date
    × (text ≡ codes "differs " ++ date ++ place_words minute slot)

-- ---- all that differs

-- the runs begin on days that a time of four bytes can name
abbrev pub AreDatedRuns : List (Line Difference) → Type 0
AreDatedRuns runs = AllByRecursion (λ run. day_of_minute run.first < DAYS) runs

-- `ACT,CREW`
abbrev pub crewed : Activity → Bool → List ℕ
crewed act crew = activity_name act ++ codes "," ++ crew_word crew

-- what the card has: its activity, with its crew where that alone differs
abbrev pub card_has : Activity → Instead → List ℕ
card_has act NoMinute = activity_name act
card_has act NoCard = activity_name act
card_has act (Doing other) = activity_name act
card_has act (Crew crew) = crewed act (not crew)

-- what the unit has: `none` where it has no such minute, `out` where no card is in the slot, its activity; with its
-- crew where that alone differs
abbrev pub unit_has : Activity → Instead → List ℕ
unit_has act NoMinute = codes "none"
unit_has act NoCard = codes "out"
unit_has act (Doing other) = activity_name other
unit_has act (Crew crew) = crewed act crew

-- `SLOT card=ACT unit=ACT`
abbrev pub difference_words : Difference → List ℕ
difference_words d = slot_name d.slot ++ codes " card=" ++ card_has d.act d.instead ++ codes " unit="
    ++ unit_has d.act d.instead

-- a line for each run: `differs DATE HH:MM-HH:MM SLOT card=ACT unit=ACT`
abbrev pub AreRunsText : List (Line Difference) → List ℕ → Type 0
AreRunsText [] text = text ≡ []
AreRunsText (run ∷ runs) text =
    (date : List ℕ) × (rest : List ℕ) × IsDateText (day_of_minute run.first) date
    × (text ≡ codes "differs " ++ date ++ line_text difference_words run ++ rest) × AreRunsText runs rest

-- `match` where there is no run, else a line for each; and three lines of counts
abbrev pub AreAllText : List (Line Difference) → Counts → List ℕ → Type 0
AreAllText [] c text = text ≡ codes "match\n" ++ count_line (codes "tested") c.tested
    ++ count_line (codes "other") c.other ++ count_line (codes "before") c.before
AreAllText (run ∷ runs) c text =
    (front : List ℕ) × AreRunsText (run ∷ runs) front
    × (text ≡ front ++ count_line (codes "tested") c.tested ++ count_line (codes "other") c.other
    ++ count_line (codes "before") c.before)

-- THE TEXT of all that differs, and of the counts
abbrev pub IsDifferencesText : Differences → List ℕ → Type 0
IsDifferencesText all text = AreAllText all.runs.items all.counts text
