use Rattle.std.proofs.Common.{append_assoc}
use Rattle.card_match.proofs.text.write_run.Goals as goal

pub returns : goal.returns
returns c = (
  c.day_text-date.result.items,
  c.day_text-date.ensures,
  rw (c.in_ok-extend_from_slice-6.ensures.items, c.in_ok-write.ensures, c.in_ok-extend_from_slice-5.ensures.items, c.in_ok-write_clock-2.ensures, c.in_ok-extend_from_slice-4.ensures.items, c.in_ok-write_clock.ensures, c.in_ok-extend_from_slice-3.ensures.items, c.in_ok-extend_from_slice-2.ensures.items, c.as_slice.ensures.value, c.in_ok-extend_from_slice.ensures.items) (simp append_assoc),
)
