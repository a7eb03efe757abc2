use Rattle.std.proofs.Common.{◌≡◌, refl, ◌∙◌, IfSome}
use Rattle.unit_model.specs.gated_ring.Ring.{number_at}
use Rattle.tach_media.proofs.Runs.{reads_then}
use Rattle.unit_model.specs.declared.layout.TheConstants.{INSERTIONS, PLACES, SPEEDS}
use Rattle.unit_model.specs.Decoding.{first_failing}
use Rattle.unit_memory.specs.Judging.{rings_of}
use Rattle.unit_memory.proofs.Told.{carried, three_told, err_true, reads_failed}
use Rattle.unit_memory.proofs.judge.bad_ring.Goals as goal

pub returns-clause-found : goal.returns-clause-found
returns-clause-found g c =
    let image = (g.M.Medium.state c.args.unit.now).image in
    let n = c.in_ok-insertion.insertion in
    let p = c.in_ok-place.place in
    let s = c.in_ok-speed.speed in
    let same_1 = c.in_ok-insertion.ensures.reads.same refl in
    let same_2 = c.in_ok-place.ensures.reads.same refl ∙ same_1 in
    let insertion : IfSome image (λ x. n ≡ number_at x INSERTIONS.place 4) = c.in_ok-insertion.ensures.value in
    let place : IfSome image (λ x. p ≡ number_at x PLACES.place 4) = carried (λ x. p ≡ number_at x PLACES.place 4) same_1 c.in_ok-place.ensures.value in
    let speed : IfSome image (λ x. s ≡ number_at x SPEEDS.place 4) = carried (λ x. s ≡ number_at x SPEEDS.place 4) same_2 c.in_ok-speed.ensures.value in
    three_told image _ insertion place speed (λ x insertion place speed. c.ring_place.ensures ∙ (λ i. first_failing (rings_of (insertion i) (place i) (speed i))))

pub returns-clause-reads : goal.returns-clause-reads
returns-clause-reads g c = reads_then (reads_then c.in_ok-insertion.ensures.reads c.in_ok-place.ensures.reads) c.in_ok-speed.ensures.reads

pub returns-in_err-speed-clause-reads : goal.returns-in_err-speed-clause-reads
returns-in_err-speed-clause-reads g c =
    reads_failed _ (err_true c.from_residual-in_err-speed.result c.from_residual-in_err-speed.ensures.0) (reads_then (reads_then c.in_ok-insertion.ensures.reads c.in_ok-place.ensures.reads) c.in_err-speed.ensures.reads)
