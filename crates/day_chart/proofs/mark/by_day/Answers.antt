use Rattle.std.proofs.Common.{◌≡◌, ◌∙◌, ℕ, ◌*◌, ◌/◌, List, ap, subst, rules, arith}
use Rattle.std.specs.List.Sorted.{IsStableByKey}
use Rattle.std.specs.Ordering.{nat_cmp}
use Rattle.std.proofs.lemmas.List.Sorted.{IsNonDecreasingBy-from_sort_by_key, answers_always}
use Rattle.view_model.specs.declared.marks.Sign.TheVariants.{Begin}
use Rattle.view_model.specs.declared.marks.Mark.{Mark}
use Rattle.day_chart.specs.Marks.{mark_day, marks_of_day}
use Rattle.day_totals.proofs.ByDay.{stable_days}
use Rattle.day_chart.proofs.mark.by_day.Goals as goal

pub returns-clause-order : goal.returns-clause-order
returns-clause-order c = IsNonDecreasingBy-from_sort_by_key mark_day _ c.in_ok-sort_by_key.ensures.sorted (λ a r q k. search rules)

pub returns-clause-same : goal.returns-clause-same
returns-clause-same c = λ day.
    let stable : IsStableByKey mark_day nat_cmp c.in_ok-ordered.ordered.items c.sort_by_key.new.self.items = c.in_ok-sort_by_key.ensures.stable mark_day (answers_always _ _ _ (λ f a r g h. search rules)) in
    let there : day * 86400 / 86400 ≡ day = omega arith in
    subst (λ (n : ℕ). marks_of_day n c.sort_by_key.new.self.items ≡ marks_of_day n c.in_ok-ordered.ordered.items) there
    (stable_days mark_day c.in_ok-ordered.ordered.items c.sort_by_key.new.self.items stable (record { sign = Begin; code = 0; second = day * 86400 }))
    ∙ ap (λ (l : List Mark). marks_of_day day l) c.in_ok-ordered.ensures.items
