use Rattle.std.proofs.Common.{leb, rules}
use Rattle.std.proofs.lemmas.List.Sorted.{IsPartitionPoint-from_clause, IsPartitionedBy-leb}
use Rattle.card_match.specs.Cases.{minute_of_case}
use Rattle.card_match.proofs.Telling.{later_by_test}
use Rattle.card_match.proofs.cases.not_later.Goals as goal

pub returns-clause-behind : goal.returns-clause-behind
returns-clause-behind c =
    let parted = IsPartitionedBy-leb minute_of_case _ c.args.minute c.requires in
    let point = IsPartitionPoint-from_clause (λ x. leb (minute_of_case x) c.args.minute) _ _ c.partition_point.ensures.partitioned parted (λ a r q k. search rules) in
    λ k d low inside. later_by_test _ _ (point.1 k d low inside)
