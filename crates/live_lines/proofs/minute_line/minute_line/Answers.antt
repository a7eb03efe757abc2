use Rattle.std.proofs.Common.{refl}
use Rattle.live_lines.proofs.minute_line.minute_line.Goals as goal

pub returns : goal.returns
returns c = (
  c.day_text-date.result.items,
  c.day_text-date.ensures,
  rw (c.add-6.ensures.items, c.add-5.ensures.items, c.clock_text.ensures, c.add-4.ensures.items, c.add-3.ensures.items, c.as_slice.ensures.value, c.add-2.ensures.items, c.add.ensures.items, c.new-text.ensures) refl,
)
