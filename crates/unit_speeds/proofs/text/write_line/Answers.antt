use Rattle.std.proofs.Common.{◌/◌}
use Rattle.std.specs.Prelude.{codes}
use Rattle.calendar_days.specs.Clock.{clock_text}
use Rattle.unit_speeds.specs.Text.{figure_text}
use Rattle.unit_speeds.proofs.Lines.{seven_pieces}
use Rattle.unit_speeds.proofs.text.write_line.Goals as goal

pub returns : goal.returns
returns c =
    let d = c.in_ok-write_date.ensures in
    let line = c.args.line in (
      d.0,
      d.1,
      rw (
        c.in_ok-extend_from_slice-2.ensures.items,
        c.in_ok-write_figure-3.ensures,
        c.in_ok-write_figure-2.ensures,
        c.in_ok-write_figure.ensures,
        c.in_ok-write_clock.ensures,
        c.in_ok-extend_from_slice.ensures.items,
        d.2,
      ) (seven_pieces c.args.text.now.items d.0 (codes " ") (clock_text (line.time / 60)) (figure_text (codes " max ") line.most) (figure_text (codes " mean ") line.mean) (figure_text (codes " moving ") line.moving) (codes "\n")),
    )
