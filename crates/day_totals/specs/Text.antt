-- The text of totals (profile).
use Rattle.std.specs.Prelude.{ℕ, Option, Some, None, List, ◌++◌, map, codes, decimal}
use Rattle.activity_codec.specs.declared.values.Slot.TheVariants.{Driver, CoDriver}
use Rattle.calendar_days.specs.Clock.{duration_text}
use Rattle.view_model.specs.declared.UnitShown.{UnitShown}
use Rattle.view_model.specs.declared.CardShown.{CardShown}
use Rattle.view_model.specs.declared.Viewed.{Viewed}
use Rattle.view_model.specs.declared.marks.Gap.{Gap}
use Rattle.slot_bars.specs.declared.seen.Seen.{Seen}
use Rattle.slot_bars.specs.Seeing.{slot_seen, card_seen}
use Rattle.slot_bars.specs.DaysOf.{day_of, days_of, AreEach}
use Rattle.view_model.specs.declared.marks.Distance.{Distance}
use Rattle.day_totals.specs.declared.figures.Figure.{Figure}
use Rattle.day_totals.specs.declared.figures.Figure.TheVariants.{Drive, Work, Available, Rest, Unknown, In}
use Rattle.day_totals.specs.Figures.{total, figure_name, distance_on}

-- ` drive 07:35`
abbrev pub figure_text : Figure → List (Viewed Seen) → List ℕ
figure_text figure minutes = codes " " ++ figure_name figure ++ codes " " ++ duration_text (total figure minutes)

-- ` km 412`, or ` km -` where no distance is told
abbrev pub distance_text : Option ℕ → List ℕ
distance_text None = codes " km -\n"
distance_text (Some km) = codes " km " ++ decimal km ++ codes "\n"

-- what stands behind the date: ` driver drive 07:35 work 02:10 available 00:30 rest 11:55 unknown 00:00 in 22:10 km
-- 412`
abbrev pub totals_text : (name : List ℕ) → List (Viewed Seen) → Option ℕ → List ℕ
totals_text name minutes km =
    codes " " ++ name ++ figure_text Drive minutes ++ figure_text Work minutes ++ figure_text Available minutes
    ++ figure_text Rest minutes ++ figure_text Unknown minutes ++ figure_text In minutes ++ distance_text km

-- the two lines of a day of a unit
abbrev pub unit_day_text : List Gap → List Distance → (date : List ℕ) → List (Viewed UnitShown) → List ℕ
unit_day_text gaps distances date minutes =
    date ++ totals_text (codes "driver") (map (slot_seen gaps Driver) minutes) (distance_on distances (day_of minutes))
    ++ date ++ totals_text (codes "codriver") (map (slot_seen gaps CoDriver) minutes)
    (distance_on distances (day_of minutes))

-- the line of a day of a card
abbrev pub card_day_text : List Distance → (date : List ℕ) → List (Viewed CardShown) → List ℕ
card_day_text distances date minutes = date
    ++ totals_text (codes "holder") (map card_seen minutes) (distance_on distances (day_of minutes))

-- THE TOTALS of a unit's minutes, day by day
unfoldable pub IsUnitTotals : List Gap → List Distance → List (Viewed UnitShown) → List ℕ → Type 0
IsUnitTotals gaps distances minutes text = AreEach (λ place date day. unit_day_text gaps distances date day) 0
    (days_of minutes) text

-- THE TOTALS of a card's minutes, day by day
unfoldable pub IsCardTotals : List Distance → List (Viewed CardShown) → List ℕ → Type 0
IsCardTotals distances minutes text = AreEach (λ place date day. card_day_text distances date day) 0 (days_of minutes)
    text
