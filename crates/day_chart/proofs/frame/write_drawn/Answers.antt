use Rattle.std.proofs.Common.{refl}
use Rattle.day_chart.proofs.frame.write_drawn.Goals as goal

pub returns : goal.returns
returns c =
    rw (
      c.in_ok-extend_from_slice-10.ensures.items,
      c.in_ok-extend_from_slice-9.ensures.items,
      c.in_ok-extend_from_slice-8.ensures.items,
      c.in_ok-extend_from_slice-7.ensures.items,
      c.in_ok-extend_from_slice-6.ensures.items,
      c.in_ok-extend_from_slice-5.ensures.items,
      c.in_ok-extend_from_slice-4.ensures.items,
      c.in_ok-extend_from_slice-3.ensures.items,
      c.in_ok-extend_from_slice-2.ensures.items,
      c.in_ok-extend_from_slice.ensures.items,
    ) refl
