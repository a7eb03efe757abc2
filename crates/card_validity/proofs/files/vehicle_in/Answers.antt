use Rattle.std.proofs.Common.{◌+◌, ◌≤◌, length, sym, ap, subst, arith}
use Rattle.gated_ring.specs.Ring.{Shape, size_of}
use Rattle.card_validity.proofs.Places.{vehicles_inside}
use Rattle.card_validity.proofs.files.vehicle_in.Goals as goal

pub entry-requires-clause-fits : goal.entry-requires-clause-fits
entry-requires-clause-fits c = subst (λ (r : Shape). r.base + size_of r ≤ length c.new-slice.result) (sym c.requires.ring) (omega (arith, vehicles_inside c.args.app.now, c.requires.inside, ap length c.new-slice.ensures))
