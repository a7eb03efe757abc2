use Rattle.std.proofs.Common.{◌≡◌, ◌∙◌, ◌+◌, IfSome, List, Option, ℕ, refl, ap, subst, arith}
use Rattle.card_layout.specs.Images.{bytes_at}
use Rattle.tach_media.proofs.Runs.{both_told, reads_then}
use Rattle.gated_ring.specs.Ring.{gate_of, number_at}
use Rattle.speed_model.specs.Stored.{speed_ring}
use Rattle.speed_store.specs.Finding.{IsBlockAt}
use Rattle.speed_store.proofs.finding.block_at.Goals as goal

pub read_number-requires-clause-inside : goal.read_number-requires-clause-inside
read_number-requires-clause-inside g c = omega (arith, c.time_place-place.ensures.inside, c.requires.unit)

pub read_speeds-requires : goal.read_speeds-requires
read_speeds-requires g c = omega (arith, c.time_place-place.ensures.inside, c.requires.unit, c.in_ok-time.ensures.reads.leaves.size)

pub returns-clause-block : goal.returns-clause-block
returns-clause-block g c =
    let o = (g.M.Medium.state c.args.unit.now).image in
    let place = c.time_place-place.result in
    let is : c.time_place-place.result ≡ gate_of speed_ring c.args.index = c.time_place-place.ensures.place in
    let speeds : IfSome o (λ x. c.in_ok-speeds.speeds ≡ bytes_at x (place + 4) 60) =
    subst (λ (i : Option (List ℕ)). IfSome i (λ x. c.in_ok-speeds.speeds ≡ bytes_at x (place + 4) 60)) (c.in_ok-time.ensures.reads.same refl) c.in_ok-speeds.ensures.value in
    both_told o (λ x. IsBlockAt x c.args.index (record { time = c.in_ok-time.time; speeds = c.in_ok-speeds.speeds })) c.in_ok-time.ensures.value speeds (λ x told time spoken.
    record { time = time ∙ ap (λ (p : ℕ). number_at x p 4) is; speeds = spoken ∙ ap (λ (p : ℕ). bytes_at x (p + 4) 60) is })

pub returns-clause-reads : goal.returns-clause-reads
returns-clause-reads g c = reads_then c.in_ok-time.ensures.reads c.in_ok-speeds.ensures.reads
