use Rattle.std.proofs.Common.{ltb, ltb-true, arith, rules}
use Rattle.std.proofs.lemmas.List.Sorted.{IsPartitionPoint-from_clause, IsPartitionedBy-ltb}
use Rattle.card_match.specs.Cases.{minute_of_case}
use Rattle.card_match.proofs.cases.earlier.Goals as goal

pub returns-clause-front : goal.returns-clause-front
returns-clause-front c =
    let parted = IsPartitionedBy-ltb minute_of_case _ c.args.minute c.requires in
    let point = IsPartitionPoint-from_clause (λ x. ltb (minute_of_case x) c.args.minute) _ _ c.partition_point.ensures.partitioned parted (λ a r q k. search rules) in
    λ k d low. ltb-true _ _ (point.0 k d (omega arith) low)
