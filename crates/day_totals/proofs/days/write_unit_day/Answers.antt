use Rattle.std.proofs.Common.{ℕ, map, subst, append_assoc}
use Rattle.activity_codec.specs.declared.values.Slot.TheVariants.{Driver, CoDriver}
use Rattle.calendar_days.specs.Calendar.{IsDateText}
use Rattle.file_view.specs.Histories.{minutes_on}
use Rattle.slot_bars.specs.Seeing.{slot_seen}
use Rattle.day_totals.proofs.Counting.{bars_stand, bars_few}
use Rattle.day_totals.proofs.days.write_unit_day.Goals as goal

pub write_totals-requires : goal.write_totals-requires
write_totals-requires c = rw c.as_slice-2.ensures.value (bars_few (slot_seen c.args.gaps.now Driver) (minutes_on c.args.lines.now) c.in_ok-driver.driver.items c.in_ok-driver.ensures c.requires.day.few)

pub write_totals-requires-2 : goal.write_totals-requires-2
write_totals-requires-2 c = rw c.as_slice-4.ensures.value (bars_few (slot_seen c.args.gaps.now CoDriver) (minutes_on c.args.lines.now) c.in_ok-codriver.codriver.items c.in_ok-codriver.ensures c.requires.day.few)

pub returns : goal.returns
returns c =
    let driver = bars_stand (map (slot_seen c.args.gaps.now Driver) (minutes_on c.args.lines.now)) c.in_ok-driver.driver.items c.in_ok-driver.ensures in
    let codriver = bars_stand (map (slot_seen c.args.gaps.now CoDriver) (minutes_on c.args.lines.now)) c.in_ok-codriver.codriver.items c.in_ok-codriver.ensures in (
      c.day_text-date.result.items,
      subst (λ (day : ℕ). IsDateText day c.day_text-date.result.items) c.day_number-day.ensures.day c.day_text-date.ensures,
      rw (
        c.in_ok-write_totals-2.ensures,
        c.in_ok-write_totals.ensures,
        c.as_slice.ensures.value,
        c.as_slice-2.ensures.value,
        c.as_slice-3.ensures.value,
        c.as_slice-4.ensures.value,
        driver,
        codriver,
        c.distance_on-km.ensures,
        c.day_number-day.ensures.day,
      ) (simp append_assoc),
    )
