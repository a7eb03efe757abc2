-- The power spans of a run with their odometers, second by second (profile).
use Rattle.std.specs.Prelude.{◌≡◌, ℕ, ◌+◌, ◌/◌, ◌<◌, min, true, false, List, [], ◌∷◌, ◌++◌, map, sum_by, if◌then◌else◌}
use Rattle.std.specs.List.{AllByRecursion}
use Rattle.minute_model.specs.Second.{Second}
use Rattle.unit_model.specs.declared.layout.TheConstants.{HIGHEST_ODOMETER}
use Rattle.log_model.specs.Course.{ToldSecond}
use Rattle.log_model.specs.Spans.{spans_with, seconds_in}
use Rattle.note_model.specs.Odometer.{SpanFrom, odometer_at}

-- the last span goes on
abbrev pub go_on_from : List SpanFrom → (base : ℕ) → ToldSecond → List SpanFrom
go_on_from [] base t = record { base = base; span = t ∷ [] } ∷ []
go_on_from (s ∷ []) base t = record { base = s.base; span = s.span ++ t ∷ [] } ∷ []
go_on_from (s ∷ next ∷ spans) base t = s ∷ go_on_from (next ∷ spans) base t

-- one second more: a new span where power begins with it, at this odometer
abbrev pub with_second : List SpanFrom → (base : ℕ) → ToldSecond → List SpanFrom
with_second spans base t = if t.lit
    then (if t.starts then spans ++ record { base = base; span = t ∷ [] } ∷ [] else go_on_from spans base t) else spans

-- WITH A SECOND MORE these are the power spans of the seconds still.
abbrev pub TheyAreTheSpans : Type 0
TheyAreTheSpans = (spans : List SpanFrom) (base : ℕ) (t : ToldSecond)
    → map (λ (s : SpanFrom). s.span) (with_second spans base t) ≡ spans_with (map (λ (s : SpanFrom). s.span) spans) t

-- ODOMETERS STAY of the seconds before it;
abbrev pub EarlierOdometersStay : Type 0
EarlierOdometersStay = (spans : List SpanFrom) (base : ℕ) (t : ToldSecond) (u : ℕ) → u < t.second.number
    → odometer_at u (with_second spans base t) ≡ odometer_at u spans

-- two seconds are alike for odometers: in number, speed, power, and whether power began with them
pub record AreAlike (t x : ToldSecond) : Type 0 where
  pub number : x.second.number ≡ t.second.number
  pub speed : x.second.speed ≡ t.second.speed
  pub lit : x.lit ≡ t.lit
  pub starts : x.starts ≡ t.starts

-- and of all seconds, whichever of two that are alike is the one more.
abbrev pub AlikeSecondsCountAlike : Type 0
AlikeSecondsCountAlike = (spans : List SpanFrom) (base : ℕ) (t x : ToldSecond) → AreAlike t x → (u : ℕ)
    → odometer_at u (with_second spans base x) ≡ odometer_at u (with_second spans base t)

-- these seconds come before a number
abbrev pub AreBefore : ℕ → List Second → Type 0
AreBefore u seconds = AllByRecursion (λ (s : Second). s.number < u) seconds

-- all seconds of these spans do
abbrev pub AreAllBefore : ℕ → List SpanFrom → Type 0
AreAllBefore u spans = AllByRecursion (λ (s : SpanFrom). AreBefore u (seconds_in s.span)) spans

-- an odometer and what was travelled in these seconds since, in whole kilometres; it stays at the highest value
abbrev pub odometer_on : (base : ℕ) → List Second → ℕ
odometer_on base seconds = min HIGHEST_ODOMETER (base + sum_by (λ (s : Second). s.speed) seconds / 3600)

-- THE ODOMETER OF NOW, in a second with power: that with which a span begins, or that of the span that goes on and what
-- was travelled in it.
abbrev pub TheOdometerOfNow : Type 0
TheOdometerOfNow = (spans : List SpanFrom) (base : ℕ) (t : ToldSecond) → t.lit ≡ true
    → AreAllBefore t.second.number spans →
    (t.starts ≡ true → odometer_at t.second.number (with_second spans base t) ≡ odometer_on base [])
    × ((earlier : List SpanFrom) (s : SpanFrom) → t.starts ≡ false → spans ≡ earlier ++ s ∷ []
    → odometer_at t.second.number (with_second spans base t) ≡ odometer_on s.base (seconds_in s.span))
