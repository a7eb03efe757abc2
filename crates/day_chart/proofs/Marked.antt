-- The marks of a day, and one more.
use Rattle.std.proofs.Common.{◌≡◌, ◌∙◌, ℕ, true, false, List, [], ◌∷◌, ◌++◌, refl, ap, sym, append_assoc, append-nil}
use Rattle.view_model.specs.declared.marks.Sign.TheVariants.{Begin}
use Rattle.view_model.specs.declared.marks.Mark.{Mark}
use Rattle.std.specs.Prelude.{◌==◌, ◌+◌, ◌*◌, map, codes}
use Rattle.activity_codec.proofs.ByTest.{by_test}
use Rattle.activity_codec.specs.declared.values.Slot.TheVariants.{Driver, CoDriver}
use Rattle.view_model.specs.declared.UnitShown.{UnitShown}
use Rattle.view_model.specs.declared.CardShown.{CardShown}
use Rattle.view_model.specs.declared.Viewed.{Viewed}
use Rattle.view_model.specs.declared.marks.Gap.{Gap}
use Rattle.slot_bars.specs.declared.seen.Seen.{Seen}
use Rattle.slot_bars.specs.Seeing.{slot_seen, card_seen}
use Rattle.slot_bars.specs.DaysOf.{day_of}
use Rattle.slot_bars.specs.Gaps.{AreSameGaps}
use Rattle.slot_bars.proofs.Runs.{seen_same}
use Rattle.day_chart.specs.Marks.{mark_text, day_mark_text, marks_text, mark_day, marks_of_day, AreSameMarks}
use Rattle.day_chart.specs.Chart.{band_head, lane_text, unit_band, card_band}

-- what stands for a mark past the end
abbrev pub no_mark : Mark
no_mark = record { sign = Begin; code = 0; second = 0 }

pub marks_more : (date : List ℕ) (day : ℕ) (marks : List Mark) (mark : Mark) → marks_text date day (marks ++ mark ∷ []) ≡ marks_text date day marks ++ day_mark_text date day mark
marks_more date day [] mark = append-nil (day_mark_text date day mark)
marks_more date day (m ∷ marks) mark =
    ap (λ (l : List ℕ). day_mark_text date day m ++ l) (marks_more date day marks mark)
    ∙ sym (append_assoc (day_mark_text date day m) (marks_text date day marks) (day_mark_text date day mark))

-- a day's marks are drawn, and no others
pub of_day_alone : (date : List ℕ) (day : ℕ) (marks : List Mark) → marks_text date day (marks_of_day day marks) ≡ marks_text date day marks
of_day_alone date day [] = refl
of_day_alone date day (mark ∷ marks) =
    by_test (mark_day mark == day)
    (λ on. rw (on, on) (ap (λ (l : List ℕ). mark_text date mark ++ l) (of_day_alone date day marks)))
    (λ off. rw off (of_day_alone date day marks))

-- and the same are where the same lie on the day
pub marks_same : (date : List ℕ) (day : ℕ) (marks other : List Mark) → AreSameMarks marks other → marks_text date day marks ≡ marks_text date day other
marks_same date day marks other same =
    sym (of_day_alone date day marks) ∙ ap (λ (l : List Mark). marks_text date day l) (same day) ∙ of_day_alone date day other

-- so the same band is drawn of a day
pub unit_same : (gaps gaps' : List Gap) (marks marks' : List Mark) → AreSameGaps gaps gaps' → AreSameMarks marks marks' → (place : ℕ) (date : List ℕ) (minutes : List (Viewed UnitShown))
    → unit_band gaps marks place date minutes ≡ unit_band gaps' marks' place date minutes
unit_same gaps gaps' marks marks' same_gaps same place date minutes =
    let band : List (Viewed Seen) → List (Viewed Seen) → List ℕ → List ℕ = λ driver codriver drawn.
    band_head (66 + 92 * place) date
    ++ lane_text date (codes "driver") driver
    ++ codes "<g transform=\"translate(0 30)\">\n"
    ++ lane_text date (codes "codriver") codriver
    ++ drawn
    ++ codes "<use xlink:href=\"#axis\"/></g></g>\n" in
    let driver = seen_same gaps gaps' same_gaps Driver minutes in
    let codriver = seen_same gaps gaps' same_gaps CoDriver minutes in
    ap (λ (l : List (Viewed Seen)). band l (map (slot_seen gaps CoDriver) minutes) (marks_text date (day_of minutes) marks)) driver
    ∙ ap (λ (l : List (Viewed Seen)). band (map (slot_seen gaps' Driver) minutes) l (marks_text date (day_of minutes) marks)) codriver
    ∙ ap (λ (l : List ℕ). band (map (slot_seen gaps' Driver) minutes) (map (slot_seen gaps' CoDriver) minutes) l) (marks_same date (day_of minutes) marks marks' same)

pub card_same : (marks marks' : List Mark) → AreSameMarks marks marks' → (place : ℕ) (date : List ℕ) (minutes : List (Viewed CardShown)) → card_band marks place date minutes ≡ card_band marks' place date minutes
card_same marks marks' same place date minutes =
    ap (λ (l : List ℕ). band_head (66 + 62 * place) date ++ lane_text date (codes "holder") (map card_seen minutes) ++ l ++ codes "<use xlink:href=\"#axis\"/></g>\n")
    (marks_same date (day_of minutes) marks marks' same)
