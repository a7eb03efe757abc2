use Rattle.std.proofs.Common.{append_assoc}
use Rattle.view_text.proofs.by_hand.write_entry.Goals as goal

pub returns : goal.returns
returns c =
    let d = c.in_ok-write_day.ensures in (
      d.0,
      d.1,
      rw (c.in_ok-extend_from_slice-6.ensures.items, c.in_ok-extend_from_slice-5.ensures.items, c.name-2.ensures, c.in_ok-extend_from_slice-4.ensures.items, c.in_ok-extend_from_slice-3.ensures.items, c.name.ensures, c.in_ok-extend_from_slice-2.ensures.items, c.in_ok-write_clock.ensures, c.in_ok-extend_from_slice.ensures.items, d.2) (simp append_assoc),
    )
