use Rattle.std.proofs.Common.{◌≡◌, ◌∙◌, ◌&&◌, List, ap, sym, subst, rules}
use Rattle.std.specs.Prelude.{nat_le, nat_lt}
use Rattle.std.specs.List.Sorted.{IsNonDecreasingBy, IsPermutation}
use Rattle.std.proofs.lemmas.List.Sorted.{IsNonDecreasingBy-from_sort_by_key, list_any-IsPermutation}
use Rattle.view_model.specs.declared.marks.Gap.{Gap}
use Rattle.slot_bars.specs.Gaps.{AreInOrder, prolonged}
use Rattle.slot_bars.specs.Seeing.{is_in_gap}
use Rattle.slot_bars.proofs.Ordered.{prolonged_order, prolonged_same}
use Rattle.slot_bars.proofs.gaps.Gaps.of.Goals as goal

pub invariant_of-result : goal.invariant_of-result
invariant_of-result c =
    let rise = IsNonDecreasingBy-from_sort_by_key (λ (g : Gap). g.first) _ c.in_ok-sort_by_key.ensures.sorted (λ a r q k. search rules) in
    rw (c.in_ok-gaps.ensures, c.as_slice.ensures.value) (prolonged_order c.sort_by_key.new.self.items rise)

pub returns : goal.returns
returns c = λ minute.
    let rise = IsNonDecreasingBy-from_sort_by_key (λ (g : Gap). g.first) _ c.in_ok-sort_by_key.ensures.sorted (λ a r q k. search rules) in
    ap (λ (l : List Gap). is_in_gap l minute) (c.in_ok-gaps.ensures ∙ ap (prolonged 0) c.as_slice.ensures.value)
    ∙ prolonged_same minute c.sort_by_key.new.self.items rise
    ∙ sym (list_any-IsPermutation (λ (gap : Gap). nat_le gap.first minute && nat_lt minute gap.behind) _ _ c.in_ok-sort_by_key.ensures.permutation)
    ∙ ap (λ (l : List Gap). is_in_gap l minute) c.in_ok-by_begin.ensures.items
