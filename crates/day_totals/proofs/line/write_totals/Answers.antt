use Rattle.std.specs.Prelude.{codes}
use Rattle.file_view.specs.Histories.{minutes_on}
use Rattle.day_totals.specs.declared.figures.Figure.TheVariants.{Drive, Work, Available, Rest, Unknown, In}
use Rattle.day_totals.specs.Text.{figure_text, distance_text}
use Rattle.day_totals.proofs.Joining.{ten_pieces}
use Rattle.day_totals.proofs.line.write_totals.Goals as goal

pub returns : goal.returns
returns c =
    let m = minutes_on c.args.bars.now in
    rw (
      c.in_ok-write_distance.ensures,
      c.in_ok-write_figure-6.ensures,
      c.in_ok-write_figure-5.ensures,
      c.in_ok-write_figure-4.ensures,
      c.in_ok-write_figure-3.ensures,
      c.in_ok-write_figure-2.ensures,
      c.in_ok-write_figure.ensures,
      c.in_ok-extend_from_slice-3.ensures.items,
      c.in_ok-extend_from_slice-2.ensures.items,
      c.in_ok-extend_from_slice.ensures.items,
    ) (ten_pieces c.args.text.now.items c.args.date.now (codes " ") c.args.name.now (figure_text Drive m) (figure_text Work m) (figure_text Available m) (figure_text Rest m) (figure_text Unknown m) (figure_text In m) (distance_text c.args.km))
