-- Over speeding, driving without a card and power interruptions, by the seconds of a power span (Annex IB, section
-- III.12).
use Rattle.std.specs.Prelude.{◌≡◌, ℕ, zero, suc, ◌+◌, ◌*◌, ◌/◌, ◌==◌, max, Bool, Option, Some, None, List, [], ◌∷◌}
use Rattle.std.specs.Prelude.{length, map, sum, fold, nat_lt, if◌then◌else◌}
use Rattle.std.specs.List.{filter_map}
use Rattle.event_model.specs.declared.entries.Over.{Over}
use Rattle.event_model.specs.declared.entries.Span.{Span}
use Rattle.event_model.specs.Runs.{ended_runs}

-- a second with its number and its speed in km/h
pub record SpeedSecond : Type 0 where
  pub number : ℕ
  pub speed : ℕ

-- a second with its number, and whether it is driven without an accepted card in the driver slot
pub record DriverSecond : Type 0 where
  pub number : ℕ
  pub bare : Bool

-- the first number of a list, 0 without one
abbrev pub first_of : List ℕ → ℕ
first_of [] = 0
first_of (x ∷ xs) = x

-- and the last one
abbrev pub last_of : List ℕ → ℕ
last_of xs = fold (λ last x. x) 0 xs

-- numbers one after another, from this one on
abbrev pub InARow : ℕ → List ℕ → Type 0
InARow from [] = Unit {0}
InARow from (x ∷ xs) = (x ≡ from) × InARow (from + 1) xs

-- its speed is above the limit
abbrev pub is_above : ℕ → SpeedSecond → Bool
is_above limit s = nat_lt limit s.speed

-- the numbers of these seconds
abbrev pub numbers : List SpeedSecond → List ℕ
numbers run = map (λ s. s.number) run

-- and their speeds
abbrev pub speeds : List SpeedSecond → List ℕ
speeds run = map (λ s. s.speed) run

-- an over speeding is a run of more than 60 seconds above the limit: its first and last second, the highest speed, and
-- the average, rounded down
abbrev pub over_of : List SpeedSecond → Option Over
over_of run =
    if nat_lt 60 (length run)
    then Some (record {
      begin = first_of (numbers run);
      end = last_of (numbers run);
      most = fold max 0 (speeds run);
      average = sum (speeds run) / length run;
    })
    else None

-- the over speedings of a span that have ended
unfoldable pub overs_of : ℕ → List SpeedSecond → List Over
overs_of limit seconds = filter_map over_of (ended_runs (is_above limit) seconds)

-- driving without a card is a run of moving seconds without an accepted card in the driver slot
abbrev pub bare_of : List DriverSecond → Option Span
bare_of [] = None
bare_of (s ∷ run) = Some (record { begin = s.number; end = last_of (map (λ x. x.number) (s ∷ run)) })

-- those of a span that have ended
unfoldable pub bares_of : List DriverSecond → List Span
bares_of seconds = filter_map bare_of (ended_runs (λ s. s.bare) seconds)

-- the power was interrupted from the minute after the last-kept one to this second, where a minute was kept
abbrev pub gap_of : (kept now : ℕ) → Option Span
gap_of kept now = if kept == 0 then None else Some (record { begin = 60 * (kept + 1); end = now })

-- n of a kind, by their numbers from one on
abbrev pub in_a_row : {T : Type 0} → (ℕ → T) → (number n : ℕ) → List T
in_a_row one number zero = []
in_a_row one number (suc n) = one number ∷ in_a_row one (number + 1) n

-- n seconds at one speed, from a number on
abbrev pub at_speed : (number n speed : ℕ) → List SpeedSecond
at_speed number n speed = in_a_row (λ k. record { number = k; speed = speed }) number n

-- n seconds that are all driven without a card, or none of them
abbrev pub all_bare : (number n : ℕ) → Bool → List DriverSecond
all_bare number n bare = in_a_row (λ k. record { number = k; bare = bare }) number n
