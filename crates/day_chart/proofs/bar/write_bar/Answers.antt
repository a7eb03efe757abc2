use Rattle.std.specs.Prelude.{codes, ◌+◌, ◌-◌, ◌%◌}
use Rattle.day_chart.specs.Bars.{half_text, look, title_text}
use Rattle.day_chart.proofs.Joining.{nine_pieces}
use Rattle.day_chart.proofs.bar.write_bar.Goals as goal

pub returns : goal.returns
returns c =
    let bar = c.args.bar in
    rw (
      c.in_ok-extend_from_slice-6.ensures.items,
      c.in_ok-write_title.ensures,
      c.in_ok-extend_from_slice-5.ensures.items,
      c.in_ok-extend_from_slice-4.ensures.items,
      c.look.ensures,
      c.in_ok-extend_from_slice-3.ensures.items,
      c.in_ok-write_half-2.ensures,
      c.width.ensures,
      c.in_ok-extend_from_slice-2.ensures.items,
      c.in_ok-write_half.ensures,
      c.in_ok-extend_from_slice.ensures.items,
    ) (nine_pieces c.args.text.now.items (codes "<rect x=\"") (half_text (120 + bar.first % 1440)) (codes "\" width=\"") (half_text (bar.last + 1 - bar.first)) (codes "\"") (look bar.shown) (codes "><title>") (title_text c.args.date.now c.args.name.now bar) (codes "</title></rect>\n"))
