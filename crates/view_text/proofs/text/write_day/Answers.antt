use Rattle.std.proofs.Common.{List, ℕ, ◌∙◌, ◌++◌, ap}
use Rattle.view_text.proofs.text.write_day.Goals as goal

pub returns : goal.returns
returns c = (
  c.day_text-date.result.items,
  c.day_text-date.ensures,
  c.in_ok-extend_from_slice.ensures.items ∙ ap (λ (bytes : List ℕ). c.args.text.now.items ++ bytes) c.as_slice.ensures.value,
)
