use Rattle.unit_model.specs.declared.layout.TheConstants.{PLACES}
use Rattle.unit_memory.proofs.Told.{told_all}
use Rattle.unit_messages.specs.Chosen.{places_on}
use Rattle.unit_messages.proofs.Joints.{at_told}
use Rattle.unit_messages.proofs.Rings.{counted_ring}
use Rattle.unit_messages.proofs.outline.rows.pass_places.Goals as goal

pub returns-clause-passed : goal.returns-clause-passed
returns-clause-passed g c =
    let d = c.args.day in
    told_all (g.M.Medium.state c.args.unit.now).image _ (λ x told low many.
    counted_ring 1 PLACES.place d.places c.places_on-entries.result (places_on d.date) x c.pass_ring.new.window c.pass_byte.new.window c.args.window.now c.places_on-entries.ensures.is c.pass_byte.ensures
    (at_told _ x told c.in_ok-pass_ring.ensures.passed) low many)
