use Rattle.std.specs.Prelude.{codes}
use Rattle.slot_bars.specs.Seeing.{bars_of}
use Rattle.day_totals.proofs.Counting.{bars_stand}
use Rattle.day_chart.specs.Bars.{bars_text}
use Rattle.day_chart.specs.Chart.{sums_text}
use Rattle.day_chart.proofs.Joining.{five_pieces}
use Rattle.day_chart.proofs.band.write_lane.Goals as goal

pub returns : goal.returns
returns c = λ minutes is.
    rw (
      c.in_ok-write_sums.ensures,
      c.in_ok-write_bars.ensures,
      c.in_ok-extend_from_slice-3.ensures.items,
      c.in_ok-extend_from_slice-2.ensures.items,
      c.in_ok-extend_from_slice.ensures.items,
      bars_stand minutes c.args.bars.now is,
      is,
    ) (five_pieces c.args.text.now.items (codes "<text x=\"54\" y=\"24\" text-anchor=\"end\" font-size=\"9\">") c.args.name.now (codes "</text>\n") (bars_text c.args.date.now c.args.name.now (bars_of minutes)) (sums_text minutes))
