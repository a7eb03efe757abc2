use Rattle.std.proofs.Common.{refl}
use Rattle.day_chart.specs.Frame.{frame_head}
use Rattle.day_chart.proofs.frame.frame_head.Goals as goal

pub returns : goal.returns
unfolding frame_head
returns c =
    rw (
      c.in_ok-write_drawn.ensures,
      c.in_ok-extend_from_slice-4.ensures.items,
      c.in_ok-extend_from_slice-3.ensures.items,
      c.in_ok-write_number-2.ensures,
      c.in_ok-extend_from_slice-2.ensures.items,
      c.in_ok-write_number.ensures,
      c.in_ok-extend_from_slice.ensures.items,
      c.new-text.ensures.items,
    ) refl
