use Rattle.std.proofs.Common.{◌∙◌, ℕ, List, ap}
use Rattle.std.specs.Prelude.{◌==◌, ◌&&◌, not}
use Rattle.file_json.specs.Days.{is_day}
use Rattle.file_json.proofs.days.stands_at.Goals as goal

pub returns : goal.returns
returns c = c.is_left.ensures ∙ ap (λ (l : List ℕ). not (c.args.at.most == 0) && is_day l) c.split_at.ensures.back
