-- What is counted of the run without a card that goes on.
use Rattle.std.specs.Prelude.{◌≡◌, ℕ, ◌+◌, ◌-◌, ◌==◌, ◌<◌, Option, Some, None, List, length, map, if◌then◌else◌}
use Rattle.event_model.specs.declared.entries.Span.{Span}
use Rattle.event_model.specs.Runs.{last_run}
use Rattle.event_model.specs.Spans.{DriverSecond, InARow, first_of}

-- its first second, and how many seconds it has
pub record Bare : Type 0 where
  pub begin : ℕ
  pub seconds : ℕ

-- no run goes on
abbrev pub no_run : Bare
no_run = record { begin = 0; seconds = 0 }

-- the run that goes on behind these seconds
abbrev pub bare_run : List DriverSecond → List DriverSecond
bare_run seconds = last_run (λ s. s.bare) seconds

-- the numbers of these seconds
abbrev pub numbers : List DriverSecond → List ℕ
numbers run = map (λ s. s.number) run

-- a run as it is kept
abbrev pub counted : List DriverSecond → Bare
counted run = record { begin = first_of (numbers run); seconds = length run }

-- so many seconds more, from one on
abbrev pub grown : (second n : ℕ) → Bare → Bare
grown second n run = record { begin = if run.seconds == 0 then second else run.begin; seconds = run.seconds + n }

-- the run, where it ends now
abbrev pub span_in : Bare → Option Span
span_in run = if run.seconds == 0 then None else Some (record { begin = run.begin; end = run.begin + run.seconds - 1 })

-- a second is the one after the run's last, where one goes on
abbrev pub IsNext : Bare → ℕ → Type 0
IsNext run second = 0 < run.seconds → run.begin + run.seconds ≡ second

-- this stands for these seconds of a span
pub record CountsDriverSeconds (kept : Bare) (seconds : List DriverSecond) : Type 0 where
  pub run : kept ≡ counted (bare_run seconds)
  pub row : InARow kept.begin (numbers (bare_run seconds))
