use Rattle.unit_model.specs.declared.layout.TheConstants.{INSERTIONS}
use Rattle.unit_memory.proofs.Told.{told_all}
use Rattle.unit_messages.specs.Chosen.{insertions_on}
use Rattle.unit_messages.proofs.Joints.{at_told}
use Rattle.unit_messages.proofs.Rings.{counted_ring}
use Rattle.unit_messages.proofs.outline.rows.pass_insertions.Goals as goal

pub returns-clause-passed : goal.returns-clause-passed
returns-clause-passed g c =
    let d = c.args.day in
    told_all (g.M.Medium.state c.args.unit.now).image _ (λ x told low many.
    counted_ring 2 INSERTIONS.place d.insertions c.insertions_on-entries.result (insertions_on d.date) x c.pass_ring.new.window c.pass_count.new.window c.args.window.now c.insertions_on-entries.ensures.is c.pass_count.ensures
    (at_told _ x told c.in_ok-pass_ring.ensures.passed) low many)
