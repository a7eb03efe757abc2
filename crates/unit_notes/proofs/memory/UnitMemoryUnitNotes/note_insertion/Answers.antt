use Rattle.std.proofs.lemmas.Grind.{common_steps}
use Rattle.std.proofs.Common.{◌≡◌, ◌≤◌, ◌+◌, length, IfSome, IfOk, List, ℕ, subst, rules, arith}
use Rattle.gated_ring.specs.Ring.{Shape, PointsInside}
use Rattle.gated_ring.specs.Change.{IsAdding, TookNext, adding_writes}
use Rattle.gated_ring.proofs.AddedAs.{added_as}
use Rattle.message_model.specs.Records.{insertion_ring}
use Rattle.unit_notes.proofs.Withdrawing.{shape_fits, shape_writable, number_opens, insertions_inside}
use Rattle.tach_media.proofs.Runs.{weaken}
use Rattle.unit_notes.specs.Entries.{insertion_bytes}
use Rattle.unit_notes.proofs.Journals.{insertion_keeps, insertion_decodes}
use Rattle.unit_notes.proofs.memory.UnitMemoryUnitNotes.note_insertion.Goals as goal

pub add-requires-clause-fits : goal.add-requires-clause-fits
add-requires-clause-fits g c = shape_fits c.insertions.result insertion_ring c.insertions.ensures insertions_inside _ c.requires.unit.sized

pub add-requires-clause-writable : goal.add-requires-clause-writable
add-requires-clause-writable g c = shape_writable c.insertions.result insertion_ring c.insertions.ensures insertions_inside _ c.requires.unit.writable

pub add-requires-clause-head : goal.add-requires-clause-head
add-requires-clause-head g c = record {
  gate = first_of (search rules, grind (arith, common_steps));
  width = first_of (search rules, grind (arith, common_steps));
  short = first_of (search rules, grind (arith, common_steps));
  opens = number_opens c.insertions.result insertion_ring _ c.args.entry.now.time.0 c.insertions.ensures c.write_insertion.ensures.time c.requires.time;
}

pub returns-clause-writes : goal.returns-clause-writes
returns-clause-writes g c =
    let len : length c.write_insertion.new.out ≡ 129 = search rules in
    subst (λ (s : Shape). IfSome (g.M.Medium.state c.args.unit.now).image (λ x. PointsInside s x → (g.M.Medium.state c.add.new.medium).clock ≤ (g.M.Medium.state c.args.unit.now).clock + adding_writes s x)) c.insertions.ensures (c.add.ensures.writes)

pub returns-clause-journal : goal.returns-clause-journal
returns-clause-journal g c =
    weaken c.add.ensures.alters.moments (λ x d was moment.
    let bytes : IsAdding c.insertions.result (insertion_bytes c.args.entry.now) x d = subst (λ (l : List ℕ). IsAdding c.insertions.result l x d) c.write_insertion.ensures.bytes moment in
    let adding : IsAdding insertion_ring (insertion_bytes c.args.entry.now) x d = subst (λ (s : Shape). IsAdding s (insertion_bytes c.args.entry.now) x d) c.insertions.ensures bytes in
    record { keeps = insertion_keeps (insertion_bytes c.args.entry.now) x d adding; decodes = insertion_decodes (insertion_bytes c.args.entry.now) x d adding })

pub returns-clause-took : goal.returns-clause-took
returns-clause-took g c = subst (λ (s : Shape). IfOk c.add.result (TookNext s (g.M.Medium.state c.args.unit.now))) c.insertions.ensures c.add.ensures.took

pub returns-clause-alters : goal.returns-clause-alters
returns-clause-alters g c = added_as c.insertions.ensures c.write_insertion.ensures.bytes c.add.ensures.alters
