-- A picture that is drawn so far: what stands in front of its bands, and the bands of the days so far.
use Rattle.std.proofs.Common.{◌≡◌, ◌∙◌, ℕ, ◌+◌, ◌-◌, List, [], ◌∷◌, ◌++◌, length, drop, refl, ap, sym, subst, append_assoc, append-nil, length-drop}
use Rattle.calendar_days.specs.Calendar.{IsDateText}
use Rattle.view_model.specs.declared.Viewed.{Viewed}
use Rattle.view_model.specs.declared.Line.{Line}
use Rattle.file_view.specs.Histories.{minutes_on}
use Rattle.slot_bars.specs.DayLines.{AreDayLines}
use Rattle.slot_bars.specs.DaysOf.{day_of, days_of}
use Rattle.slot_bars.proofs.EachDay.{IsSoFar, begun, one_more}

module _ {X : Type 0} (piece : ℕ → List ℕ → List (Viewed X) → List ℕ) (head : List ℕ) (all : List (Line X)) where
  abbrev pub IsDrawn : (place : ℕ) (rest : List (Line X)) (text : List ℕ) → Type 0
  IsDrawn place rest text = (bands : List ℕ) × (text ≡ head ++ bands) × IsSoFar piece all place rest bands

  pub drawn_none : (text : List ℕ) → text ≡ head → IsDrawn 0 all text
  drawn_none text is = ([], is ∙ sym (append-nil head), begun piece all [] refl)

  pub drawn_more : (place : ℕ) (rest front behind : List (Line X)) (text new date : List ℕ) → days_of (minutes_on rest) ≡ minutes_on front ∷ days_of (minutes_on behind)
      → IsDrawn place rest text → IsDateText (day_of (minutes_on front)) date → new ≡ text ++ piece place date (minutes_on front) → IsDrawn (place + 1) behind new
  drawn_more place rest front behind text new date split drawn dated is = (
    drawn.0 ++ piece place date (minutes_on front),
    is ∙ ap (λ (l : List ℕ). l ++ piece place date (minutes_on front)) drawn.1 ∙ append_assoc head drawn.0 (piece place date (minutes_on front)),
    one_more piece all place rest front behind drawn.0 (drawn.0 ++ piece place date (minutes_on front)) date split drawn.2 dated refl,
  )

-- the lines behind a day
pub lines_behind : {X : Type 0} → (rest behind : List (Line X)) (n : ℕ) → behind ≡ drop n rest → AreDayLines (drop n rest) → AreDayLines behind
lines_behind {X} rest behind n is are = subst (λ (l : List (Line X)). AreDayLines l) (sym is) are

pub behind_long : {X : Type 0} → (rest behind : List (Line X)) (n : ℕ) → behind ≡ drop n rest → length behind ≡ length rest - n
behind_long {X} rest behind n is = ap (λ (l : List (Line X)). length l) is ∙ length-drop n rest
