use Rattle.std.proofs.Common.{◌≡◌, ◌∙◌, ℕ, List, ap, rules}
use Rattle.std.specs.List.Sorted.{IsNonDecreasingBy, IsStableByKey}
use Rattle.std.specs.Ordering.{nat_cmp}
use Rattle.std.proofs.lemmas.List.Sorted.{IsNonDecreasingBy-from_sort_by_key, answers_always}
use Rattle.unit_marks.specs.declared.marks.Midnight.{Midnight}
use Rattle.unit_marks.specs.Marks.{by_date}
use Rattle.unit_marks.specs.Sorted.{firsts_from}
use Rattle.unit_marks.proofs.Dated.{date_of, sorted_firsts}
use Rattle.unit_marks.proofs.marks.by_date.Goals as goal

pub returns : goal.returns
returns c =
    let rise : IsNonDecreasingBy date_of c.sort_by_key.new.self.items = IsNonDecreasingBy-from_sort_by_key date_of _ c.in_ok-sort_by_key.ensures.sorted (λ a r q k. search rules) in
    let stable : IsStableByKey date_of nat_cmp c.in_ok-told.told.items c.sort_by_key.new.self.items = c.in_ok-sort_by_key.ensures.stable date_of (answers_always _ _ _ (λ f a r g h. search rules)) in
    c.in_ok-days.ensures
    ∙ ap (λ (l : List Midnight). firsts_from 0 l) c.as_slice.ensures.value
    ∙ sorted_firsts c.in_ok-told.told.items c.sort_by_key.new.self.items rise stable
    ∙ ap (λ (l : List Midnight). by_date l) c.in_ok-told.ensures.items
