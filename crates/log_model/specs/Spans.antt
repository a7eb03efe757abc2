-- The power spans of a run: seconds with power one after another, of which no one but the last is a cut's (profile).
use Rattle.std.specs.Prelude.{◌≡◌, ℕ, ◌+◌, ◌<◌, ◌≤◌, List, [], ◌∷◌, ◌++◌, length, map, if◌then◌else◌, fold}
use Rattle.trace_model.specs.Trace.{TraceSecond}
use Rattle.run_model.specs.minute_model.Second.{Second}
use Rattle.run_model.specs.minute_model.Span.{AreNumbered}
use Rattle.log_model.specs.Course.{ToldSecond}

-- the last span goes on
abbrev pub go_on : List (List ToldSecond) → ToldSecond → List (List ToldSecond)
go_on [] t = (t ∷ []) ∷ []
go_on (span ∷ []) t = (span ++ t ∷ []) ∷ []
go_on (span ∷ next ∷ spans) t = span ∷ go_on (next ∷ spans) t

-- one second more: a new span where power begins with it
abbrev pub spans_with : List (List ToldSecond) → ToldSecond → List (List ToldSecond)
spans_with spans t = if t.lit then (if t.starts then spans ++ (t ∷ []) ∷ [] else go_on spans t) else spans

-- the power spans of these seconds
unfoldable pub spans_of : List ToldSecond → List (List ToldSecond)
spans_of ts = fold spans_with [] ts

-- the seconds of a span, by number, speed and selections alone
abbrev pub seconds_in : List ToldSecond → List Second
seconds_in span = map (λ t. t.second) span

-- the number of the first second of a span, 0 where it has none
abbrev pub first_in : List ToldSecond → ℕ
first_in [] = 0
first_in (t ∷ span) = t.second.number

-- the number behind a span's last second
abbrev pub end_in : List ToldSecond → ℕ
end_in span = first_in span + length span

-- these seconds of a trace are numbered one after another, from this number on
abbrev pub AreInOrder : ℕ → List TraceSecond → Type 0
AreInOrder number [] = Unit {0}
AreInOrder number (s ∷ ss) = (s.number ≡ number) × AreInOrder (number + 1) ss

-- from one number to another: each span has a second, its seconds are numbered one after another, and it begins no
-- earlier than the one before it ends
abbrev pub AreApart : ℕ → List (List ToldSecond) → ℕ → Type 0
AreApart from [] until = from ≤ until
AreApart from (span ∷ spans) until =
    (0 < length span) × (from ≤ first_in span) × AreNumbered (first_in span) (seconds_in span)
    × AreApart (end_in span) spans until
