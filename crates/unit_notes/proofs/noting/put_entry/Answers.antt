use Rattle.std.proofs.lemmas.Grind.{common_steps}
use Rattle.std.proofs.Common.{◌≡◌, length, ◌∙◌, ap, arith, rules}
use Rattle.card_layout.specs.Fields.{total_width}
use Rattle.note_model.specs.Tables.{widths_of}
use Rattle.unit_notes.proofs.Types.{entry_wide, ring_fits, ring_index, ring_gate, ring_width, entry_place_writable, ring_opens}
use Rattle.unit_notes.proofs.noting.put_entry.Goals as goal

pub put_at-requires-clause-fits : goal.put_at-requires-clause-fits
put_at-requires-clause-fits g c = ring_fits c.args.kind c.table_of.result c.table_of.ensures _ c.requires.unit.sized

pub put_at-requires-clause-index : goal.put_at-requires-clause-index
put_at-requires-clause-index g c = ring_index c.args.kind c.table_of.result c.table_of.ensures c.args.place c.requires.place

pub put_at-requires-clause-writable : goal.put_at-requires-clause-writable
put_at-requires-clause-writable g c =
    let wide : length c.deref.result.now ≡ total_width (widths_of c.args.kind) = ap length (c.deref.ensures.0 ∙ c.entry_of-entry.ensures) ∙ entry_wide c.args.kind c.args.similar c.args.front.now c.requires.front in
    entry_place_writable c.args.kind c.table_of.result c.table_of.ensures _ c.args.place _ c.requires.place (omega (arith, wide)) c.requires.unit.writable

pub put_at-requires-clause-head : goal.put_at-requires-clause-head
put_at-requires-clause-head g c = record {
  gate = ring_gate c.args.kind c.table_of.result c.table_of.ensures _ (ap length (c.deref.ensures.0 ∙ c.entry_of-entry.ensures) ∙ entry_wide c.args.kind c.args.similar c.args.front.now c.requires.front);
  width =
      let wide : length c.deref.result.now ≡ total_width (widths_of c.args.kind) = ap length (c.deref.ensures.0 ∙ c.entry_of-entry.ensures) ∙ entry_wide c.args.kind c.args.similar c.args.front.now c.requires.front in
      ring_width c.args.kind c.table_of.result c.table_of.ensures _ (omega (arith, wide));
  short = first_of (search rules, grind (arith, common_steps));
  opens = ring_opens c.args.kind c.table_of.result c.table_of.ensures c.args.similar c.args.front.now c.deref.result.now c.requires.front (c.deref.ensures.0 ∙ c.entry_of-entry.ensures) c.requires.begin;
}
