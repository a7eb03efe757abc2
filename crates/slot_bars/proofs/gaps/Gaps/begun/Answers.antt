use Rattle.std.proofs.Common.{◌≡◌, ◌∙◌, true, false, List, leb, leb-true, arith, rules, subst}
use Rattle.std.specs.List.Sorted.{IsPartitionPoint, IsPartitionedBy}
use Rattle.std.proofs.lemmas.Bool.{leb-false}
use Rattle.std.proofs.lemmas.List.Sorted.{IsPartitionPoint-from_clause, IsPartitionedBy-leb}
use Rattle.view_model.specs.declared.marks.Gap.{Gap}
use Rattle.slot_bars.proofs.gaps.Gaps.begun.Goals as goal

pub returns-clause-front : goal.returns-clause-front
returns-clause-front c =
    let rise = IsPartitionedBy-leb (λ (g : Gap). g.first) c.self.inside.gaps.items c.args.minute c.self.invariant.begins in
    let parted : IsPartitionedBy (λ (g : Gap). leb g.first c.args.minute) c.as_slice.result.now = rw c.as_slice.ensures.value rise in
    let point = IsPartitionPoint-from_clause (λ (g : Gap). leb g.first c.args.minute) _ _ c.partition_point.ensures.partitioned parted (λ a r q k. search rules) in
    let there = subst (λ (l : List Gap). IsPartitionPoint (λ g. leb g.first c.args.minute ≡ true) (λ g. leb g.first c.args.minute ≡ false) l c.partition_point.result) (c.as_slice.ensures.value ∙ c.self.view_is) point in
    λ k d low. leb-true _ _ (there.0 k d (omega arith) low)

pub returns-clause-behind : goal.returns-clause-behind
returns-clause-behind c =
    let rise = IsPartitionedBy-leb (λ (g : Gap). g.first) c.self.inside.gaps.items c.args.minute c.self.invariant.begins in
    let parted : IsPartitionedBy (λ (g : Gap). leb g.first c.args.minute) c.as_slice.result.now = rw c.as_slice.ensures.value rise in
    let point = IsPartitionPoint-from_clause (λ (g : Gap). leb g.first c.args.minute) _ _ c.partition_point.ensures.partitioned parted (λ a r q k. search rules) in
    let there = subst (λ (l : List Gap). IsPartitionPoint (λ g. leb g.first c.args.minute ≡ true) (λ g. leb g.first c.args.minute ≡ false) l c.partition_point.result) (c.as_slice.ensures.value ∙ c.self.view_is) point in
    λ k d least low. leb-false _ _ (there.1 k d least low)
