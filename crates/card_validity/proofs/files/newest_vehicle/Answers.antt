use Rattle.std.proofs.Common.{◌∙◌, ℕ, Option, Some, sym, ap, subst}
use Rattle.gated_ring.specs.Ring.{IsNewest}
use Rattle.card_image.specs.Fields.{vehicle_ring}
use Rattle.card_files.specs.declared.vehicle.Vehicle.{Vehicle}
use Rattle.card_validity.proofs.Places.{newest_none, newest_some}
use Rattle.card_validity.proofs.files.newest_vehicle.Goals as goal

pub returns-in-None : goal.returns-in-None
returns-in-None c = sym (newest_none c.args.app.now c.args.image.now (subst (λ (o : Option ℕ). IsNewest (vehicle_ring c.args.app.now) c.args.image.now o) c.in-None.is c.requires.newest))

pub returns-in-Some : goal.returns-in-Some
returns-in-Some c =
    ap (λ (v : Vehicle). Some v) c.vehicle_in.ensures
    ∙ sym (newest_some c.args.app.now c.args.image.now c.in-Some.index (subst (λ (o : Option ℕ). IsNewest (vehicle_ring c.args.app.now) c.args.image.now o) c.in-Some.is c.requires.newest))
