use Rattle.std.proofs.Common.{ℕ, map, subst, append_assoc}
use Rattle.calendar_days.specs.Calendar.{IsDateText}
use Rattle.file_view.specs.Histories.{minutes_on}
use Rattle.slot_bars.specs.Seeing.{card_seen}
use Rattle.day_totals.proofs.Counting.{bars_stand, bars_few}
use Rattle.day_totals.proofs.days.write_card_day.Goals as goal

pub write_totals-requires : goal.write_totals-requires
write_totals-requires c = rw c.as_slice-2.ensures.value (bars_few card_seen (minutes_on c.args.lines.now) c.in_ok-bars.bars.items c.in_ok-bars.ensures c.requires.day.few)

pub returns : goal.returns
returns c =
    let bars = bars_stand (map card_seen (minutes_on c.args.lines.now)) c.in_ok-bars.bars.items c.in_ok-bars.ensures in (
      c.day_text-date.result.items,
      subst (λ (day : ℕ). IsDateText day c.day_text-date.result.items) c.day_number-day.ensures.day c.day_text-date.ensures,
      rw (c.in_ok-write_totals.ensures, c.as_slice.ensures.value, c.as_slice-2.ensures.value, bars, c.distance_on-km.ensures, c.day_number-day.ensures.day) (simp append_assoc),
    )
