use Rattle.std.proofs.Common.{append_assoc}
use Rattle.view_text.proofs.text.write_line.Goals as goal

pub returns : goal.returns
returns g c = (
  c.args.date.now,
  c.requires,
  rw (c.in_ok-extend_from_slice-2.ensures.items, c.in_ok-write.ensures, c.in_ok-write_span.ensures, c.in_ok-extend_from_slice.ensures.items) (simp append_assoc),
)
