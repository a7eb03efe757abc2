use Rattle.std.proofs.Common.{◌∙◌, ℕ, ap}
use Rattle.file_view.specs.Showing.{before_last}
use Rattle.file_json.specs.Days.{days_from, items_behind}
use Rattle.file_json.proofs.days.newest_days.Goals as goal

pub returns-clause-days : goal.returns-clause-days
returns-clause-days c =
    c.behind_days.ensures.days
    ∙ ap (λ (n : ℕ). items_behind n (days_from c.args.all c.args.circle.now)) (c.first_of-skip.ensures ∙ ap (λ (n : ℕ). before_last c.args.last n) c.count_days-count.ensures)
