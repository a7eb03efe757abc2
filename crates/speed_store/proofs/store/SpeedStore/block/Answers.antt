use Rattle.std.proofs.Common.{◌<◌, IfSome, List, Option, ℕ, length, get_or, refl, subst, arith}
use Rattle.tach_media.proofs.Runs.{both_told, reads_then}
use Rattle.gated_ring.specs.Ring.{indices}
use Rattle.speed_model.specs.Stored.{speed_ring}
use Rattle.speed_store.specs.Finding.{IsBlockAt}
use Rattle.speed_store.specs.Stores.{HoldsBlocks}
use Rattle.speed_store.proofs.store.SpeedStore.block.Goals as goal

pub returns-clause-block : goal.returns-clause-block
returns-clause-block g c =
    let o = (g.M.Medium.state c.args.unit.now).image in
    let block = c.in_ok-block.block in
    let stands : IfSome o (λ x. IsBlockAt x c.in_ok-index.index block) =
    subst (λ (i : Option (List ℕ)). IfSome i (λ x. IsBlockAt x c.in_ok-index.index block)) (c.in_ok-index.ensures.reads.same refl) c.in_ok-block.ensures.block in
    both_told o (λ x. HoldsBlocks c.args.self.now x → IsBlockAt x (get_or (indices speed_ring x) c.args.nth 0) block) c.in_ok-index.ensures.index stands (λ x told index is held.
    let low : c.args.nth < length (indices speed_ring x) = omega (arith, c.requires.nth, held.count_is) in
    subst (λ (i : ℕ). IsBlockAt x i block) (index held.points low) is)

pub returns-clause-reads : goal.returns-clause-reads
returns-clause-reads g c = reads_then c.in_ok-index.ensures.reads c.in_ok-block.ensures.reads
