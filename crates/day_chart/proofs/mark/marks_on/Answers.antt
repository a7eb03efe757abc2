use Rattle.std.proofs.Common.{◌≡◌, ◌∙◌, ℕ, true, false, List, take, drop, leb, ltb, leb-true, ltb-true, ap, subst, arith, rules, length}
use Rattle.std.specs.List.Sorted.{IsPartitionPoint, IsPartitionedBy}
use Rattle.std.proofs.lemmas.Bool.{leb-false, ltb-false}
use Rattle.std.proofs.lemmas.List.Sorted.{IsPartitionPoint-from_clause, IsPartitionedBy-leb, IsPartitionedBy-ltb, IsNonDecreasingBy-drop}
use Rattle.view_model.specs.declared.marks.Mark.{Mark}
use Rattle.day_chart.specs.Marks.{mark_day}
use Rattle.day_totals.proofs.ByDay.{between}
use Rattle.day_chart.proofs.mark.marks_on.Goals as goal

pub returns : goal.returns
returns c =
    let marks = c.args.marks.now in
    let day = c.args.day in
    let from = c.partition_point-from.result in
    let count = c.partition_point-count.result in
    let back = c.split_at.ensures.back in
    let parted = IsPartitionedBy-ltb mark_day marks day c.requires in
    let point = IsPartitionPoint-from_clause (λ (m : Mark). ltb (mark_day m) c.args.day) _ _ c.partition_point-from.ensures.partitioned parted (λ a r q k. search rules) in
    let rest : IsPartitionedBy (λ (m : Mark). leb (mark_day m) c.args.day) c.split_at.result.1.now = rw c.split_at.ensures.back (IsPartitionedBy-leb mark_day (drop from marks) day (IsNonDecreasingBy-drop mark_day from marks c.requires)) in
    let found = IsPartitionPoint-from_clause (λ (m : Mark). leb (mark_day m) c.args.day) _ _ c.partition_point-count.ensures.partitioned rest (λ a r q k. search rules) in
    let end = subst (λ (l : List Mark). IsPartitionPoint (λ m. leb (mark_day m) c.args.day ≡ true) (λ m. leb (mark_day m) c.args.day ≡ false) l c.partition_point-count.result) back found in
    c.split_at-2.ensures.front
    ∙ ap (λ (l : List Mark). take c.partition_point-count.result l) back
    ∙ between mark_day day marks from count c.partition_point-from.ensures.bound (omega (arith, c.partition_point-count.ensures.bound, ap (λ (l : List Mark). length l) back))
    (λ k d low. ltb-true _ _ (point.0 k d (omega arith) low))
    (λ k d least low. ltb-false _ _ (point.1 k d least low))
    (λ k d low. leb-true _ _ (end.0 k d (omega arith) low))
    (λ k d least low. leb-false _ _ (end.1 k d least low))
