use Rattle.std.proofs.Common.{◌≡◌, ◌∙◌, ◌++◌, ℕ, List, ap, subst}
use Rattle.std.specs.Prelude.{OnOk}
use Rattle.json.specs.Json.{array, Items}
use Rattle.json.specs.Tree.{json_tokens}
use Rattle.file_json.specs.Days.{days_shown}
use Rattle.file_json.proofs.days.write_newest.Goals as goal

pub returns : goal.returns
returns c =
    subst (λ (js : Items). OnOk c.write_days_of.result (c.write_days_of.new.writer ≡ c.args.writer.now ++ json_tokens (array js)))
    (ap (λ (l : List ℕ). days_shown c.newest_days-days.result.most c.newest_days-days.result.far l) c.split_at.ensures.back ∙ c.newest_days-days.ensures.days)
    c.write_days_of.ensures
