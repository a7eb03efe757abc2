use Rattle.std.proofs.Common.{◌≡◌, ℕ, List, Option, Some, None, ◌-◌, ◌+◌, ◌++◌, ◌<◌, ◌∙◌, subst, sym, ap, refl}
use Rattle.std.specs.Prelude.{IfSome}
use Rattle.std.specs.List.{range_with_len}
use Rattle.std.proofs.lemmas.Result.{IfOk-weaker}
use Rattle.tach_media.proofs.Runs.{both_told}
use Rattle.gated_ring.specs.Ring.{Shape, pointer, PointsInside, order, next, IsNewest}
use Rattle.gated_ring.specs.Searching.{IsNewestOf}
use Rattle.gated_ring.proofs.Orders.{order_two}
use Rattle.gated_ring.proofs.Newest.{newest_back, newest_front, newest_of_ring}
use Rattle.gated_ring.proofs.ring.Ring.newest.Goals as goal

-- what is found behind the pointer's index, or else from the start, said of the whole order
by_order : (r : Shape) (x : List ℕ) (last : ℕ) (o : Option ℕ) → last < r.count → last ≡ pointer r x → IsNewestOf r x (range_with_len (last + 1) (r.count - (last + 1)) ++ range_with_len 0 (last + 1 - 0)) o → IsNewest r x o
by_order r x last o below is found =
    newest_of_ring r x o (subst (λ (p : ℕ). IsNewestOf r x (order r (next r p)) o) is (subst (λ (l : List ℕ). IsNewestOf r x l o) (sym (order_two r last below)) found))

pub returns-in-Some-clause-newest : goal.returns-in-Some-clause-newest
returns-in-Some-clause-newest g c =
    let r = c.args.self.now in
    let last = c.in_ok-last.last in
    let i = c.in-Some.index in
    let found = subst (λ (o : Option (List ℕ)). IfSome o (λ x. IsNewestOf r x (range_with_len 0 (last + 1 - 0)) (Some i))) (c.in_ok-last.ensures.reads.same refl)
    (subst (λ (n : Option ℕ). IfSome (g.M.Medium.state c.last.new.medium).image (λ x. IsNewestOf r x (range_with_len 0 (last + 1 - 0)) n)) c.in-Some.is c.in_ok-index.ensures.newest) in
    both_told (g.M.Medium.state c.args.medium.now).image (λ x. PointsInside r x → IsNewest r x (Some i)) c.in_ok-last.ensures.last found (λ x is same new known.
    by_order r x last (Some i) c.in_ok-last.ensures.below (same known) (newest_back r x (range_with_len (last + 1) (r.count - (last + 1))) (range_with_len 0 (last + 1 - 0)) i new))

pub returns-in-None-clause-newest : goal.returns-in-None-clause-newest
returns-in-None-clause-newest g c =
    let r = c.args.self.now in
    let last = c.in_ok-last.last in
    let none = subst (λ (o : Option (List ℕ)). IfSome o (λ x. IsNewestOf r x (range_with_len 0 (last + 1 - 0)) None)) (c.in_ok-last.ensures.reads.same refl)
    (subst (λ (n : Option ℕ). IfSome (g.M.Medium.state c.last.new.medium).image (λ x. IsNewestOf r x (range_with_len 0 (last + 1 - 0)) n)) c.in-None.is c.in_ok-index.ensures.newest) in
    let front = range_with_len (last + 1) (r.count - (last + 1)) in
    let count : c.self.inside.count ≡ r.count = ap (λ (s : Shape). s.count) c.self.view_is in
    IfOk-weaker c.newest_in-in-None.result
    (λ o. IfSome (g.M.Medium.state c.newest_in.new.medium).image (λ x. IsNewestOf r x (range_with_len (last + 1) (c.self.inside.count - (last + 1))) o))
    (λ o. IfSome (g.M.Medium.state c.args.medium.now).image (λ x. PointsInside r x → IsNewest r x o)) (λ o found_there.
    let found_here = subst (λ (m : ℕ). IfSome (g.M.Medium.state c.newest_in.new.medium).image (λ x. IsNewestOf r x (range_with_len (last + 1) (m - (last + 1))) o)) count found_there in
    let found = subst (λ (p : Option (List ℕ)). IfSome p (λ x. IsNewestOf r x front o)) ((c.in_ok-index.ensures.reads.same refl) ∙ (c.in_ok-last.ensures.reads.same refl)) found_here in
    both_told (g.M.Medium.state c.args.medium.now).image (λ x. PointsInside r x → IsNewest r x o) c.in_ok-last.ensures.last
    (both_told _ (λ x. IsNewestOf r x (front ++ range_with_len 0 (last + 1 - 0)) o) none found (λ x is no new. newest_front r x front (range_with_len 0 (last + 1 - 0)) o no new))
    (λ x is same new known. by_order r x last o c.in_ok-last.ensures.below (same known) new)) c.newest_in-in-None.ensures.newest
