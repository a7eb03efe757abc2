use Rattle.std.proofs.Common.{List, ℕ, ◌∙◌, ◌++◌, ap}
use Rattle.unit_speeds.proofs.text.write_date.Goals as goal

pub returns : goal.returns
returns c = (
  c.day_text-date.result.items,
  c.day_text-date.ensures,
  c.in_ok-extend_from_slice.ensures.items ∙ ap (λ (bytes : List ℕ). c.args.text.now.items ++ bytes) c.as_slice.ensures.value,
)
