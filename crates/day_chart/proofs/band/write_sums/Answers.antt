use Rattle.std.specs.Prelude.{codes}
use Rattle.calendar_days.specs.Clock.{duration_text}
use Rattle.file_view.specs.Histories.{minutes_on}
use Rattle.day_totals.specs.declared.figures.Figure.TheVariants.{Drive, Work, Available, Rest}
use Rattle.day_totals.specs.Figures.{total}
use Rattle.day_chart.proofs.Joining.{nine_pieces}
use Rattle.day_chart.proofs.band.write_sums.Goals as goal

pub returns : goal.returns
returns c =
    let m = minutes_on c.args.bars.now in
    rw (
      c.in_ok-extend_from_slice-5.ensures.items,
      c.in_ok-write_duration-4.ensures,
      c.minutes_in-4.ensures.total,
      c.in_ok-extend_from_slice-4.ensures.items,
      c.in_ok-write_duration-3.ensures,
      c.minutes_in-3.ensures.total,
      c.in_ok-extend_from_slice-3.ensures.items,
      c.in_ok-write_duration-2.ensures,
      c.minutes_in-2.ensures.total,
      c.in_ok-extend_from_slice-2.ensures.items,
      c.in_ok-write_duration.ensures,
      c.minutes_in.ensures.total,
      c.in_ok-extend_from_slice.ensures.items,
    ) (nine_pieces c.args.text.now.items (codes "<use xlink:href=\"#signs\"/><text x=\"800\" y=\"23\" font-size=\"9\">") (duration_text (total Drive m)) (codes "</text><text x=\"849\" y=\"23\" font-size=\"9\">") (duration_text (total Work m)) (codes "</text><text x=\"898\" y=\"23\" font-size=\"9\">") (duration_text (total Available m)) (codes "</text><text x=\"947\" y=\"23\" font-size=\"9\">") (duration_text (total Rest m)) (codes "</text>\n"))
