use Rattle.std.proofs.Common.{◌≡◌, ◌∙◌, Some, IfSome, List, ℕ, refl, ap, sym, subst}
use Rattle.tach_media.proofs.Runs.{after_reads, at_image, if_told, from_told}
use Rattle.gated_ring.specs.Ring.{Shape, PointsInside, is_there, taken}
use Rattle.gated_ring.specs.Change.{IsAdded}
use Rattle.speed_model.specs.Blocks.{block_bytes}
use Rattle.speed_model.specs.Stored.{speed_ring}
use Rattle.speed_store.specs.Stores.{HoldsBlocks}
use Rattle.speed_store.proofs.Counting.{holds-more}
use Rattle.speed_store.proofs.store.SpeedStore.add.Goals as goal

pub returns-in_err-add_block-clause-moments : goal.returns-in_err-add_block-clause-moments
returns-in_err-add_block-clause-moments g c = after_reads c.in_ok-room.ensures.reads.leaves (c.in_ok-room.ensures.reads.same refl) c.in_err-add_block.ensures.alters.moments

pub returns-clause-moments : goal.returns-clause-moments
returns-clause-moments g c = after_reads c.in_ok-room.ensures.reads.leaves (c.in_ok-room.ensures.reads.same refl) c.in_ok-add_block.ensures.alters.moments

pub returns-clause-holds : goal.returns-clause-holds
returns-clause-holds g c =
    let o = (g.M.Medium.state c.args.unit.now).image in
    let after = (g.M.Medium.state c.add_block.new.unit).image in
    let room = c.in_ok-room.room in
    let bytes = block_bytes c.args.block.now in
    if_told o (λ x. HoldsBlocks c.args.self.now x → IfSome after (HoldsBlocks c.grow.new.self)) (λ x told h.
    let mid : (g.M.Medium.state c.room.new.medium).image ≡ Some x = c.in_ok-room.ensures.reads.same refl ∙ told in
    let index : room.index ≡ taken speed_ring x =
    at_image (λ (x : List ℕ). PointsInside speed_ring x → room.index ≡ taken speed_ring x) told (subst (λ (r : Shape). IfSome o (λ x. PointsInside r x → room.index ≡ taken r x)) c.blocks-2.ensures c.in_ok-room.ensures.index) h.points in
    let used : room.used ≡ is_there speed_ring x room.index =
    at_image (λ (x : List ℕ). room.used ≡ is_there speed_ring x room.index) told (subst (λ (r : Shape). IfSome o (λ x. room.used ≡ is_there r x room.index)) c.blocks-2.ensures c.in_ok-room.ensures.used) in
    let added : IfSome after (IsAdded speed_ring bytes x) = at_image (λ (x : List ℕ). IfSome after (IsAdded speed_ring bytes x)) mid c.in_ok-add_block.ensures.alters.done in
    from_told after (IsAdded speed_ring bytes x) (HoldsBlocks c.grow.new.self) added
    (λ y is one. subst (λ (n : ℕ). HoldsBlocks n y) (sym c.grow.ensures) (holds-more x y bytes c.args.self.now room.used h (used ∙ ap (is_there speed_ring x) index) one)))
