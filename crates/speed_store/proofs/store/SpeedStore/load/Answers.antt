use Rattle.std.proofs.Common.{◌≡◌, IfSome, List, Option, ℕ, refl, subst}
use Rattle.tach_media.proofs.Runs.{reads_then, both_told}
use Rattle.gated_ring.specs.Ring.{Shape, PointsInside}
use Rattle.speed_model.specs.Stored.{speed_ring}
use Rattle.speed_store.specs.Stores.{HoldsBlocks, there_count}
use Rattle.speed_store.proofs.Counting.{count-holds}
use Rattle.speed_store.proofs.store.SpeedStore.load.Goals as goal

pub returns-clause-holds : goal.returns-clause-holds
returns-clause-holds g c =
    let o = (g.M.Medium.state c.args.unit.now).image in
    let n = c.in_ok-count.count in
    let known : IfSome o (PointsInside speed_ring) = subst (λ (r : Shape). IfSome o (PointsInside r)) c.in_ok-load.ensures.ok c.in_ok-load.ensures.known in
    let count : IfSome o (λ x. n ≡ there_count x 1440) = subst (λ (i : Option (List ℕ)). IfSome i (λ x. n ≡ there_count x 1440)) (c.in_ok-load.ensures.reads.same refl) c.in_ok-count.ensures.count in
    both_told o (HoldsBlocks n) known count (λ x told points is. count-holds x n points is)

pub returns-clause-reads : goal.returns-clause-reads
returns-clause-reads g c = reads_then c.in_ok-load.ensures.reads c.in_ok-count.ensures.reads
