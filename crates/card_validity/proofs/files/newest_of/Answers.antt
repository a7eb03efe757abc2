use Rattle.std.proofs.Common.{◌+◌, ◌≤◌, ◌<◌, ℕ, List, Option, IfSome, length, sym, ap, subst, arith}
use Rattle.gated_ring.specs.Ring.{Shape, PointsInside, IsNewest, size_of}
use Rattle.card_validity.proofs.Slices.{never_fails, ok_told}
use Rattle.card_validity.proofs.Places.{vehicles_inside}
use Rattle.card_validity.proofs.files.newest_of.Goals as goal

pub newest-requires-clause-fits : goal.newest-requires-clause-fits
newest-requires-clause-fits c = subst (λ (r : Shape). r.base + size_of r ≤ length c.new-slice.result) (sym c.requires.ring) (omega (arith, vehicles_inside c.args.app.now, c.requires.inside, ap length c.new-slice.ensures))

pub unwrap-requires : goal.unwrap-requires
unwrap-requires c = never_fails _ _ c.newest.result c.newest.ensures.reads

pub returns-clause-newest : goal.returns-clause-newest
returns-clause-newest c =
    let r = c.args.ring.now in
    let told = ok_told c.newest.result c.unwrap.result (λ (o : Option ℕ). PointsInside r c.new-slice.result → IsNewest r c.new-slice.result o) c.unwrap.ensures c.newest.ensures.newest in
    let at : PointsInside r c.args.image.now → IsNewest r c.args.image.now c.unwrap.result = subst (λ (x : List ℕ). PointsInside r x → IsNewest r x c.unwrap.result) c.new-slice.ensures told in
    subst (λ (s : Shape). PointsInside s c.args.image.now → IsNewest s c.args.image.now c.unwrap.result) c.requires.ring at c.requires.points

pub returns-clause-below : goal.returns-clause-below
returns-clause-below c =
    let told = ok_told c.newest.result c.unwrap.result (λ (o : Option ℕ). IfSome o (λ i. i < c.args.ring.now.count)) c.unwrap.ensures c.newest.ensures.below in
    subst (λ (s : Shape). IfSome c.unwrap.result (λ i. i < s.count)) c.requires.ring told
