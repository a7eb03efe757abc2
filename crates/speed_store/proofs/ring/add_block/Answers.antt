use Rattle.std.proofs.Common.{rules, ◌≡◌, ◌<◌, ◌≤◌, ◌+◌, IfSome, List, ℕ, true, sym, subst, arith}
use Rattle.tach_media.specs.Medium.{LiesInside}
use Rattle.tach_media.proofs.Ranges.{lies_part}
use Rattle.tach_media.proofs.Runs.{at_image, if_told, from_told, alters_as}
use Rattle.gated_ring.specs.Ring.{Shape, PointsInside, IsAtPointer, size_of, taken}
use Rattle.gated_ring.specs.Change.{IsAdded, adding_writes}
use Rattle.gated_ring.proofs.Behind.{added-at}
use Rattle.speed_model.specs.Blocks.{block_bytes}
use Rattle.speed_model.specs.Stored.{speed_ring}
use Rattle.speed_store.proofs.ring.add_block.Goals as goal
use Rattle.gated_ring.proofs.AddedAs.{added_as}
use Rattle.std.specs.Prelude.{is_err}

pub add-requires-clause-writable : goal.add-requires-clause-writable
add-requires-clause-writable g c =
    let ranges = (g.M.Medium.state c.args.unit.now).writable in
    subst (λ (r : Shape). LiesInside ranges r.base (size_of r)) (sym c.blocks-2.ensures) (lies_part ranges 0 2485808 2393644 92164 (omega arith) (omega arith) c.requires.unit.writable)

pub returns-in_err-index-clause-writes : goal.returns-in_err-index-clause-writes
returns-in_err-index-clause-writes g c =
    subst (λ (r : Shape). IfSome (g.M.Medium.state c.args.unit.now).image (λ x. PointsInside r x → (g.M.Medium.state c.add.new.medium).clock ≤ (g.M.Medium.state c.args.unit.now).clock + adding_writes r x)) c.blocks-2.ensures c.in_err-index.ensures.writes

pub returns-clause-writes : goal.returns-clause-writes
returns-clause-writes g c =
    subst (λ (r : Shape). IfSome (g.M.Medium.state c.args.unit.now).image (λ x. PointsInside r x → (g.M.Medium.state c.add.new.medium).clock ≤ (g.M.Medium.state c.args.unit.now).clock + adding_writes r x)) c.blocks-2.ensures c.in_ok-index.ensures.writes

-- the new block is the newest
pub returns-clause-newest : goal.returns-clause-newest
returns-clause-newest g c =
    let old = (g.M.Medium.state c.args.unit.now).image in
    let new = (g.M.Medium.state c.add.new.medium).image in
    let bytes = block_bytes c.args.block.now in
    let index = c.in_ok-index.index in
    let does = added_as c.blocks-2.ensures c.write_block.ensures.bytes c.in_ok-index.ensures.alters in
    let all : IfSome old (λ x. IfSome new (IsAdded speed_ring bytes x)) = does.done in
    if_told old (λ x. PointsInside speed_ring x → IfSome new (IsAtPointer speed_ring c.in_ok-index.index)) (λ x was points.
    let same : c.in_ok-index.index ≡ taken speed_ring x =
    at_image (λ (x : List ℕ). PointsInside speed_ring x → c.in_ok-index.index ≡ taken speed_ring x) was
    (subst (λ (r : Shape). IfSome (g.M.Medium.state c.args.unit.now).image (λ x. PointsInside r x → c.in_ok-index.index ≡ taken r x)) c.blocks-2.ensures c.in_ok-index.ensures.took.is) points in
    from_told new (IsAdded speed_ring bytes x) (IsAtPointer speed_ring c.in_ok-index.index) (at_image (λ (x : List ℕ). IfSome new (IsAdded speed_ring bytes x)) was all)
    (λ y is added. added-at speed_ring bytes index x y points same added))

pub returns-in_err-index-clause-alters : goal.returns-in_err-index-clause-alters
returns-in_err-index-clause-alters g c =
    let failed : is_err c.from_residual.result ≡ true = search rules in
    alters_as c.from_residual.result failed (added_as c.blocks-2.ensures c.write_block.ensures.bytes c.in_err-index.ensures.alters)

pub returns-clause-alters : goal.returns-clause-alters
returns-clause-alters g c = added_as c.blocks-2.ensures c.write_block.ensures.bytes c.in_ok-index.ensures.alters

pub returns-clause-below : goal.returns-clause-below
returns-clause-below g c = subst (λ (r : Shape). c.in_ok-index.index < r.count) c.blocks-2.ensures c.in_ok-index.ensures.took.below
