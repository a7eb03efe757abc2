use Rattle.std.proofs.Common.{ℕ, Option, Some, IfSome, subst}
use Rattle.gated_ring.specs.Ring.{PointsInside, IsAtPointer}
use Rattle.speed_model.specs.Stored.{speed_ring}
use Rattle.run_events.specs.Blocks.{KnowsNewest}
use Rattle.run_events.proofs.Newest.{told-newest, ok-then}
use Rattle.run_events.proofs.watch.add_next.Given.{Over}
use Rattle.run_events.proofs.watch.add_next.Goals as goal

known : (g : Over) (c : goal.After-add_block_behind-arg-1 g) → KnowsNewest (Some c.in-Some.last) (g.M.Medium.state c.args.unit.now)
known g c = subst (λ (o : Option ℕ). KnowsNewest o (g.M.Medium.state c.args.unit.now)) c.in-Some.is c.requires.newest

pub add_block_behind-requires-clause-last : goal.add_block_behind-requires-clause-last
add_block_behind-requires-clause-last g c = (known g c).0

pub add_block_behind-requires-clause-known : goal.add_block_behind-requires-clause-known
add_block_behind-requires-clause-known g c = (known g c).1

pub returns-in-None-clause-newest : goal.returns-in-None-clause-newest
returns-in-None-clause-newest g c =
    let old = (g.M.Medium.state c.args.unit.now).image in
    let new = (g.M.Medium.state c.add_block.new.unit).image in
    let points : IfSome old (PointsInside speed_ring) = subst (λ (o : Option ℕ). KnowsNewest o (g.M.Medium.state c.args.unit.now)) c.in-None.is c.requires.newest in
    ok-then c.add_block.result (λ index. IfSome old (λ x. PointsInside speed_ring x → IfSome new (IsAtPointer speed_ring index))) (λ index. IfSome new (IsAtPointer speed_ring index))
    (λ index all. told-newest old new (IsAtPointer speed_ring index) c.add_block.ensures.alters.moments.tells points all) c.add_block.ensures.newest
