use Rattle.std.proofs.Common.{◌≡◌, ◌+◌, ◌∙◌, IfSome, List, Option, ℕ, refl, ap, sym, subst, arith}
use Rattle.gated_ring.specs.Ring.{number_at, gate_of}
use Rattle.tach_media.proofs.Runs.{reads_then, both_told, from_told}
use Rattle.speed_model.specs.Stored.{speed_ring}
use Rattle.speed_store.specs.Stores.{there_count}
use Rattle.speed_store.proofs.Counting.{there-more}
use Rattle.speed_store.proofs.store.count_there.Goals as goal

pub read_number-requires-clause-inside : goal.read_number-requires-clause-inside
read_number-requires-clause-inside g c = omega (arith, c.time_place.ensures.inside, c.requires.unit, c.loop-index.invariant.reads.leaves.size)

pub loop-index-preserved : goal.loop-index-preserved
loop-index-preserved g c =
    let o = (g.M.Medium.state c.args.unit.now).image in
    let was = c.loop-index.invariant in
    let index = c.loop-index.index in
    let time = c.in_ok-time.time in
    let place : c.time_place.result ≡ gate_of speed_ring index = c.time_place.ensures.place in
    let value : IfSome o (λ x. time ≡ number_at x c.time_place.result 4) =
    subst (λ (i : Option (List ℕ)). IfSome i (λ x. time ≡ number_at x c.time_place.result 4)) (was.reads.same refl) c.in_ok-time.ensures.value in
    record {
      found = both_told o (λ x. c.loop-index.count + c.one_if-count.result ≡ there_count x (index + 1)) was.found value (λ x told count number.
          (λ t. count t + c.one_if-count.ensures.value t) ∙ sym (there-more x index time (number ∙ ap (λ (p : ℕ). number_at x p 4) place)));
      few = omega (arith, was.few, c.one_if-count.ensures.few);
      reads = reads_then was.reads c.in_ok-time.ensures.reads;
    }

pub returns-clause-count : goal.returns-clause-count
returns-clause-count g c =
    let o = (g.M.Medium.state c.args.unit.now).image in
    let index = c.loop-index.index in
    let end : index ≡ 1440 = omega (arith, c.loop-index-test.false, c.loop-index.auto.index-end) in
    from_told o (λ x. c.loop-index.count ≡ there_count x index) (λ x. c.loop-index.count ≡ there_count x 1440) c.loop-index.invariant.found (λ x told found. found ∙ ap (there_count x) end)
