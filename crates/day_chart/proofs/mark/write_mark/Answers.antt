use Rattle.std.specs.Prelude.{codes, ◌+◌, ◌/◌, ◌%◌}
use Rattle.day_chart.specs.Bars.{half_text}
use Rattle.day_chart.specs.Marks.{sign_name, mark_title}
use Rattle.day_chart.proofs.Joining.{seven_pieces}
use Rattle.day_chart.proofs.mark.write_mark.Goals as goal

pub returns : goal.returns
returns c =
    let mark = c.args.mark in
    rw (
      c.in_ok-extend_from_slice-5.ensures.items,
      c.in_ok-write_mark_title.ensures,
      c.in_ok-extend_from_slice-4.ensures.items,
      c.in_ok-write_half.ensures,
      c.in_ok-extend_from_slice-3.ensures.items,
      c.in_ok-extend_from_slice-2.ensures.items,
      c.sign_name.ensures,
      c.in_ok-extend_from_slice.ensures.items,
    ) (seven_pieces c.args.text.now.items (codes "<use xlink:href=\"#mark-") (sign_name mark.sign) (codes "\" x=\"") (half_text (120 + mark.second / 60 % 1440)) (codes "\"><title>") (mark_title c.args.date.now mark) (codes "</title></use>\n"))
