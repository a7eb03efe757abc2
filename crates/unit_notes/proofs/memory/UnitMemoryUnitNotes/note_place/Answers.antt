use Rattle.std.proofs.lemmas.Grind.{common_steps}
use Rattle.std.proofs.Common.{◌≡◌, ◌≤◌, ◌+◌, length, IfSome, List, ℕ, true, refl, subst, rules, arith}
use Rattle.std.specs.Prelude.{is_err}
use Rattle.gated_ring.specs.Ring.{Shape, PointsInside}
use Rattle.gated_ring.specs.Change.{IsAdding, adding_writes}
use Rattle.message_model.specs.Records.{unit_place_ring}
use Rattle.unit_notes.proofs.Withdrawing.{shape_fits, shape_writable, number_opens, places_inside}
use Rattle.tach_media.proofs.Runs.{weaken, alters_as}
use Rattle.gated_ring.proofs.AddedAs.{added_as}
use Rattle.unit_notes.specs.Entries.{unit_place_bytes}
use Rattle.unit_notes.proofs.Journals.{place_keeps, place_decodes}
use Rattle.unit_notes.proofs.memory.UnitMemoryUnitNotes.note_place.Goals as goal

pub add-requires-clause-fits : goal.add-requires-clause-fits
add-requires-clause-fits g c = shape_fits c.places.result unit_place_ring c.places.ensures places_inside _ c.requires.unit.sized

pub add-requires-clause-writable : goal.add-requires-clause-writable
add-requires-clause-writable g c = shape_writable c.places.result unit_place_ring c.places.ensures places_inside _ c.requires.unit.writable

pub add-requires-clause-head : goal.add-requires-clause-head
add-requires-clause-head g c = record {
  gate = first_of (search rules, grind (arith, common_steps));
  width = first_of (search rules, grind (arith, common_steps));
  short = first_of (search rules, grind (arith, common_steps));
  opens = number_opens c.places.result unit_place_ring _ c.args.entry.now.time.0 c.places.ensures c.write_unit_place.ensures.time c.requires.time;
}

pub returns-in_err-add-clause-writes : goal.returns-in_err-add-clause-writes
returns-in_err-add-clause-writes g c =
    let len : length c.write_unit_place.new.out ≡ 28 = search rules in
    subst (λ (s : Shape). IfSome (g.M.Medium.state c.args.unit.now).image (λ x. PointsInside s x → (g.M.Medium.state c.add.new.medium).clock ≤ (g.M.Medium.state c.args.unit.now).clock + adding_writes s x)) c.places.ensures (c.in_err-add.ensures.writes)

pub returns-clause-writes : goal.returns-clause-writes
returns-clause-writes g c =
    let len : length c.write_unit_place.new.out ≡ 28 = search rules in
    subst (λ (s : Shape). IfSome (g.M.Medium.state c.args.unit.now).image (λ x. PointsInside s x → (g.M.Medium.state c.add.new.medium).clock ≤ (g.M.Medium.state c.args.unit.now).clock + adding_writes s x)) c.places.ensures (c.in_ok-add.ensures.writes)

pub returns-in_err-add-clause-journal : goal.returns-in_err-add-clause-journal
returns-in_err-add-clause-journal g c =
    weaken c.add.ensures.alters.moments (λ x d was moment.
    let bytes : IsAdding c.places.result (unit_place_bytes c.args.number.now c.args.entry.now) x d = subst (λ (l : List ℕ). IsAdding c.places.result l x d) c.write_unit_place.ensures.bytes moment in
    let adding : IsAdding unit_place_ring (unit_place_bytes c.args.number.now c.args.entry.now) x d = subst (λ (s : Shape). IsAdding s (unit_place_bytes c.args.number.now c.args.entry.now) x d) c.places.ensures bytes in
    record {
      keeps = place_keeps (unit_place_bytes c.args.number.now c.args.entry.now) x d adding;
      decodes = place_decodes (unit_place_bytes c.args.number.now c.args.entry.now) x d adding;
    })

pub returns-clause-journal : goal.returns-clause-journal
returns-clause-journal g c =
    weaken c.add.ensures.alters.moments (λ x d was moment.
    let bytes : IsAdding c.places.result (unit_place_bytes c.args.number.now c.args.entry.now) x d = subst (λ (l : List ℕ). IsAdding c.places.result l x d) c.write_unit_place.ensures.bytes moment in
    let adding : IsAdding unit_place_ring (unit_place_bytes c.args.number.now c.args.entry.now) x d = subst (λ (s : Shape). IsAdding s (unit_place_bytes c.args.number.now c.args.entry.now) x d) c.places.ensures bytes in
    record {
      keeps = place_keeps (unit_place_bytes c.args.number.now c.args.entry.now) x d adding;
      decodes = place_decodes (unit_place_bytes c.args.number.now c.args.entry.now) x d adding;
    })

pub returns-in_err-add-clause-alters : goal.returns-in_err-add-clause-alters
returns-in_err-add-clause-alters g c =
    let failed : is_err c.from_residual.result ≡ true = search rules in
    alters_as c.from_residual.result failed (added_as c.places.ensures c.write_unit_place.ensures.bytes c.in_err-add.ensures.alters)

pub returns-clause-alters : goal.returns-clause-alters
returns-clause-alters g c = alters_as _ refl (added_as c.places.ensures c.write_unit_place.ensures.bytes c.in_ok-add.ensures.alters)
