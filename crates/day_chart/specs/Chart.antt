-- The picture of days (profile).
use Rattle.std.specs.Prelude.{◌≡◌, ℕ, ◌+◌, ◌*◌, List, ◌++◌, length, map, codes, decimal}
use Rattle.activity_codec.specs.declared.values.Slot.TheVariants.{Driver, CoDriver}
use Rattle.calendar_days.specs.Clock.{duration_text}
use Rattle.view_model.specs.declared.UnitShown.{UnitShown}
use Rattle.view_model.specs.declared.CardShown.{CardShown}
use Rattle.view_model.specs.declared.Viewed.{Viewed}
use Rattle.view_model.specs.declared.marks.Gap.{Gap}
use Rattle.slot_bars.specs.declared.seen.Seen.{Seen}
use Rattle.slot_bars.specs.Seeing.{slot_seen, card_seen, bars_of}
use Rattle.slot_bars.specs.DaysOf.{day_of, days_of, AreEach}
use Rattle.day_totals.specs.declared.figures.Figure.TheVariants.{Drive, Work, Available, Rest}
use Rattle.day_totals.specs.Figures.{total}
use Rattle.view_model.specs.declared.marks.Mark.{Mark}
use Rattle.day_chart.specs.declared.frame.TheConstants.{FRAME_HEIGHT, FIRST_BAND, UNIT_BAND, CARD_BAND}
use Rattle.day_chart.specs.Bars.{bars_text}
use Rattle.day_chart.specs.Marks.{marks_text}
use Rattle.day_chart.specs.Frame.{frame_text}

-- the totals of a lane, of the minutes with a card
abbrev pub sums_text : List (Viewed Seen) → List ℕ
sums_text minutes =
    codes "<use xlink:href=\"#signs\"/><text x=\"800\" y=\"23\" font-size=\"9\">" ++ duration_text (total Drive minutes)
    ++ codes "</text><text x=\"849\" y=\"23\" font-size=\"9\">" ++ duration_text (total Work minutes)
    ++ codes "</text><text x=\"898\" y=\"23\" font-size=\"9\">" ++ duration_text (total Available minutes)
    ++ codes "</text><text x=\"947\" y=\"23\" font-size=\"9\">" ++ duration_text (total Rest minutes)
    ++ codes "</text>\n"

-- A LANE: the slot's name, its bars, and the totals of its minutes with a card
abbrev pub lane_text : (date name : List ℕ) → List (Viewed Seen) → List ℕ
lane_text date name minutes =
    codes "<text x=\"54\" y=\"24\" text-anchor=\"end\" font-size=\"9\">" ++ name ++ codes "</text>\n"
    ++ bars_text date name (bars_of minutes) ++ sums_text minutes

-- where a band stands, and its date
abbrev pub band_head : (top : ℕ) → (date : List ℕ) → List ℕ
band_head top date =
    codes "<g transform=\"translate(0 " ++ decimal top
    ++ codes ")\"><text x=\"60\" y=\"-3\" font-weight=\"bold\" font-size=\"10\">" ++ date ++ codes "</text>\n"

-- the band of a day of a unit: two lanes, the marks of the day and the axis
abbrev pub unit_band : List Gap → List Mark → (place : ℕ) → (date : List ℕ) → List (Viewed UnitShown) → List ℕ
unit_band gaps marks place date minutes =
    band_head (FIRST_BAND + UNIT_BAND * place) date
    ++ lane_text date (codes "driver") (map (slot_seen gaps Driver) minutes)
    ++ codes "<g transform=\"translate(0 30)\">\n"
    ++ lane_text date (codes "codriver") (map (slot_seen gaps CoDriver) minutes)
    ++ marks_text date (day_of minutes) marks
    ++ codes "<use xlink:href=\"#axis\"/></g></g>\n"

-- the band of a day of a card: one lane, the marks of the day and the axis
abbrev pub card_band : List Mark → (place : ℕ) → (date : List ℕ) → List (Viewed CardShown) → List ℕ
card_band marks place date minutes =
    band_head (FIRST_BAND + CARD_BAND * place) date ++ lane_text date (codes "holder") (map card_seen minutes)
    ++ marks_text date (day_of minutes) marks
    ++ codes "<use xlink:href=\"#axis\"/></g>\n"

-- THE PICTURE of a unit's minutes: a band a day, in their order, with the marks of the day, and the totals as its text
pub record IsUnitChart (gaps : List Gap) (marks : List Mark) (totals : List ℕ) (minutes : List (Viewed UnitShown))
    (text : List ℕ) : Type 0 where
  pub bands : List ℕ
  pub each : AreEach (unit_band gaps marks) 0 (days_of minutes) bands
  pub framed : text ≡ frame_text (FRAME_HEIGHT + UNIT_BAND * length (days_of minutes)) totals bands

-- THE PICTURE of a card's minutes: a band a day, in the same way
pub record IsCardChart (marks : List Mark) (totals : List ℕ) (minutes : List (Viewed CardShown)) (text : List ℕ) :
    Type 0 where
  pub bands : List ℕ
  pub each : AreEach (card_band marks) 0 (days_of minutes) bands
  pub framed : text ≡ frame_text (FRAME_HEIGHT + CARD_BAND * length (days_of minutes)) totals bands
