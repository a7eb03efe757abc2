use Rattle.std.proofs.Common.{refl}
use Rattle.card_match.proofs.text.listed_text.Goals as goal

pub returns : goal.returns
returns c = (
  c.in_ok-text.text.items,
  c.in_ok-text.ensures,
  rw (c.in_ok-write_count-3.ensures, c.in_ok-write_count-2.ensures, c.in_ok-write_count.ensures) refl,
)
