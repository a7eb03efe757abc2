use Rattle.std.proofs.Common.{◌≡◌, ◌∙◌, ℕ, List, ap, sym, rules}
use Rattle.std.specs.Prelude.{Option, option_map, slice_get}
use Rattle.std.specs.List.Sorted.{IsStableByKey}
use Rattle.std.specs.Ordering.{nat_cmp}
use Rattle.std.proofs.lemmas.List.Sorted.{IsNonDecreasingBy-from_sort_by_key, answers_always}
use Rattle.view_model.specs.declared.marks.Distance.{Distance}
use Rattle.day_totals.specs.Figures.{day_told, distance_on}
use Rattle.day_totals.proofs.ByDay.{stable_days, first_on}
use Rattle.day_totals.proofs.figures.by_day.Goals as goal

pub returns-clause-order : goal.returns-clause-order
returns-clause-order c = IsNonDecreasingBy-from_sort_by_key day_told _ c.in_ok-sort_by_key.ensures.sorted (λ a r q k. search rules)

pub returns-clause-same : goal.returns-clause-same
returns-clause-same c = λ day.
    let stable : IsStableByKey day_told nat_cmp c.in_ok-ordered.ordered.items c.sort_by_key.new.self.items = c.in_ok-sort_by_key.ensures.stable day_told (answers_always _ _ _ (λ f a r g h. search rules)) in
    ap (λ (o : Option Distance). option_map (λ (d : Distance). d.km) o)
    (first_on day_told day c.sort_by_key.new.self.items
    ∙ ap (λ (l : List Distance). slice_get l 0) (stable_days day_told c.in_ok-ordered.ordered.items c.sort_by_key.new.self.items stable (record { day = day; km = 0 }))
    ∙ sym (first_on day_told day c.in_ok-ordered.ordered.items))
    ∙ ap (λ (l : List Distance). distance_on l day) c.in_ok-ordered.ensures.items
