-- Times of day as text.
use Rattle.std.specs.Prelude.{ℕ, ◌+◌, ◌/◌, ◌%◌, List, [], ◌∷◌, ◌++◌, codes}
use Rattle.activity_codec.specs.declared.day.TheConstants.{DAY_MINUTES, MINUTE_SECONDS}

-- a number below 100 by its two digits, as `05`
abbrev pub two_digits : ℕ → List ℕ
two_digits n = (48 + n / 10) ∷ (48 + n % 10) ∷ []

-- so many minutes, fewer than those of 100 hours, as hours and minutes: `07:35`
abbrev pub duration_text : ℕ → List ℕ
duration_text minutes = two_digits (minutes / 60) ++ codes ":" ++ two_digits (minutes % 60)

-- the time of day of a minute, counted from some midnight: `09:05`
abbrev pub clock_text : ℕ → List ℕ
clock_text minute = duration_text (minute % DAY_MINUTES)

-- the time of day of a second, counted from some midnight: `06:12:03`
abbrev pub seconds_text : ℕ → List ℕ
seconds_text second = clock_text (second / MINUTE_SECONDS) ++ codes ":" ++ two_digits (second % MINUTE_SECONDS)
