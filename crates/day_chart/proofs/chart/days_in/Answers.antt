use Rattle.std.proofs.Common.{length, arith}
use Rattle.file_view.specs.Histories.{minutes_on}
use Rattle.slot_bars.specs.DaysOf.{days_of}
use Rattle.slot_bars.proofs.EachDay.{split_days, none_left}
use Rattle.day_chart.proofs.Counted.{one_less, none_more}
use Rattle.day_chart.proofs.Drawing.{behind_long, lines_behind}
use Rattle.day_chart.proofs.chart.days_in.Goals as goal

pub days-init : goal.days-init
days-init g c = record { lines = c.requires; few = omega arith; so_far = omega arith }

pub days-smaller : goal.days-smaller
days-smaller g c =
    omega (arith, c.first_day.ensures.some, c.first_day.ensures.within, behind_long c.days.rest.now c.split_at.result.1.now c.first_day.result c.split_at.ensures.back)

pub days-preserved : goal.days-preserved
days-preserved g c =
    let inv = c.days.invariant in
    let split = split_days c.days.rest.now c.split_at.result.0.now c.split_at.result.1.now c.first_day.result c.split_at.ensures.front c.split_at.ensures.back c.first_day.ensures.days in
    record {
      lines = lines_behind c.days.rest.now c.split_at.result.1.now c.first_day.result c.split_at.ensures.back c.first_day.ensures.more;
      few = omega (arith, inv.few, c.first_day.ensures.some, c.first_day.ensures.within, behind_long c.days.rest.now c.split_at.result.1.now c.first_day.result c.split_at.ensures.back);
      so_far = one_less (length (days_of (minutes_on c.args.lines.now))) c.days.count c.days.rest.now c.split_at.result.0.now c.split_at.result.1.now inv.so_far split;
    }

pub returns : goal.returns
returns g c =
    none_more (length (days_of (minutes_on c.args.lines.now))) c.days.count c.days.rest.now c.days.invariant.so_far (none_left c.days.rest.now (omega (arith, c.days-test.false)))
