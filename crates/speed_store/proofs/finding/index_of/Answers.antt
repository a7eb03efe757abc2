use Rattle.std.proofs.Common.{◌≡◌, ◌∙◌, ◌+◌, ◌<◌, IfSome, List, Option, ℕ, length, get_or, refl, ap, sym, subst, arith}
use Rattle.std.specs.Prelude.{◌==◌, not, Bool, cond, true, false}
use Rattle.tach_media.proofs.Runs.{reads_then, both_told, from_told, if_told}
use Rattle.gated_ring.specs.Ring.{PointsInside, pointer, gate_of, number_at, indices}
use Rattle.speed_model.specs.Stored.{speed_ring}
use Rattle.speed_store.specs.declared.finding.Found.{Found}
use Rattle.speed_store.specs.Finding.{IsFound, after, turned, picked}
use Rattle.speed_store.proofs.BlockFinding.{so_far, none_found, found_more, so_far_all}
use Rattle.speed_store.proofs.finding.index_of.Goals as goal

-- where one place more leads stands below the count, too
below_then : (found : Found) (there : Bool) (index : ℕ) → found.index < 1440 → index < 1440 → (picked found there index).index < 1440
below_then found false index was low = was
below_then found true index was low = by (found.left == 1)
  where
    by : (b : Bool) → cond b index found.index < 1440
    by true = low
    by false = was

pub loop-step-init : goal.loop-step-init
loop-step-init g c =
    let o = (g.M.Medium.state c.args.unit.now).image in
    record {
      found = if_told o (λ x. PointsInside speed_ring x → IsFound c.args.nth (so_far x 0) (record { left = c.args.nth + 1; index = c.in_ok-first.first })) (λ x told points. none_found x c.args.nth c.in_ok-first.first);
      below = c.in_ok-first.ensures.below;
      reads = c.in_ok-first.ensures.reads;
    }

pub read_number-requires-clause-inside : goal.read_number-requires-clause-inside
read_number-requires-clause-inside g c = omega (arith, c.time_place.ensures.inside, c.requires.unit, c.loop-step.invariant.reads.leaves.size)

pub loop-step-preserved : goal.loop-step-preserved
loop-step-preserved g c =
    let o = (g.M.Medium.state c.args.unit.now).image in
    let was = c.loop-step.invariant in
    let step = c.loop-step.step in
    let index = c.turned-index.result in
    let time = c.in_ok-time.time in
    let place : c.time_place.result ≡ gate_of speed_ring index = c.time_place.ensures.place in
    let value : IfSome o (λ x. time ≡ number_at x c.time_place.result 4) =
    subst (λ (i : Option (List ℕ)). IfSome i (λ x. time ≡ number_at x c.time_place.result 4)) (was.reads.same refl) c.in_ok-time.ensures.value in
    let begun : IfSome o (λ x. c.in_ok-first.first ≡ after (pointer speed_ring x)) = c.in_ok-first.ensures.index in
    let facts : IfSome o (λ x. (time ≡ number_at x c.time_place.result 4) × (c.in_ok-first.first ≡ after (pointer speed_ring x))) =
    both_told o (λ x. (time ≡ number_at x c.time_place.result 4) × (c.in_ok-first.first ≡ after (pointer speed_ring x))) value begun (λ x told v b. (v, b)) in
    record {
      found = both_told o (λ x. PointsInside speed_ring x → IsFound c.args.nth (so_far x (step + 1)) c.pick-found.result) was.found facts (λ x told found fact points.
          subst (λ (f : Found). IsFound c.args.nth (so_far x (step + 1)) f) (sym c.pick-found.ensures)
          (found_more x c.args.nth step index time c.loop-step.found points c.loop-step-test.true
          (c.turned-index.ensures.index ∙ ap (λ (f : ℕ). turned f step) fact.1) (fact.0 ∙ ap (λ (p : ℕ). number_at x p 4) place) (found points)));
      below = subst (λ (f : Found). f.index < 1440) (sym c.pick-found.ensures) (below_then c.loop-step.found (not (time == 0)) index was.below c.turned-index.ensures.below);
      reads = reads_then was.reads c.in_ok-time.ensures.reads;
    }

pub returns-clause-index : goal.returns-clause-index
returns-clause-index g c =
    let o = (g.M.Medium.state c.args.unit.now).image in
    let step = c.loop-step.step in
    let end : step ≡ 1440 = omega (arith, c.loop-step-test.false, c.loop-step.auto.step-end) in
    from_told o (λ x. PointsInside speed_ring x → IsFound c.args.nth (so_far x step) c.loop-step.found)
    (λ x. PointsInside speed_ring x → c.args.nth < length (indices speed_ring x) → c.loop-step.found.index ≡ get_or (indices speed_ring x) c.args.nth 0) c.loop-step.invariant.found (λ x told found points low.
    (subst (λ (l : List ℕ). IsFound c.args.nth l c.loop-step.found) (ap (so_far x) end ∙ so_far_all x points) (found points)).index low)
