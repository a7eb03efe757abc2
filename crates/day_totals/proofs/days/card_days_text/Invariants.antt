use Rattle.std.proofs.Common.{ℕ, length}
use Rattle.slot_bars.specs.DayLines.{AreDayLines}
use Rattle.slot_bars.proofs.EachDay.{IsSoFar}
use Rattle.day_totals.specs.Text.{card_day_text}
use Rattle.day_totals.proofs.days.card_days_text.Given as goal

-- what is written with the days that are left is the whole
abbrev pub invariant-days : goal.invariant-days
invariant-days l = record {
  lines : AreDayLines l.rest;
  far : (place : ℕ) × IsSoFar (λ place date day. card_day_text l.fn.distances date day) l.fn.lines place l.rest l.text.items;
}

abbrev pub decreases-days : goal.decreases-days
decreases-days l = length l.rest
