-- What a turn of seconds with the same cards brings and notes (Annex IB, section III.12).
use Rattle.std.specs.Prelude.{ℕ, ◌^◌, ◌<◌, List, option_to_list}
use Rattle.std.specs.List.{AllByRecursion}
use Rattle.trace_model.specs.declared.Card.{Card}
use Rattle.tacho_types.specs.declared.card_number.FullCardNumber.{FullCardNumber}
use Rattle.event_model.specs.Events.{Seen, number_of}
use Rattle.run_events.specs.Seconds.{bares_by, overs_by}
use Rattle.run_events.specs.declared.watch.Ended.{Ended}
use Rattle.run_events.specs.Watching.{bare_ended, over_ended}
use Rattle.run_events.specs.Watched.{ArePairs, IsBareOf, IsFastOf}

-- WHAT HAS ENDED with the second before some new ones, behind those of the span, is what these bring of both types, one
-- for one
pub record AreEnded (number : Card → FullCardNumber) (limit : ℕ) (span new : List Seen) (ended : Ended) : Type 0 where
  pub bares : ArePairs (IsBareOf number) (bares_by span new) (option_to_list (bare_ended ended))
  pub overs : ArePairs (IsFastOf number) (overs_by limit span new) (option_to_list (over_ended ended))

-- the number of a second is not 0, and fits its field of four bytes
abbrev pub IsLow : ℕ → Type 0
IsLow n = (0 < n) × (n < 2 ^ 32)

-- so do the numbers of these seconds
abbrev pub AreLow : List Seen → Type 0
AreLow seen = AllByRecursion (λ x. IsLow (number_of x)) seen
