use Rattle.std.proofs.Common.{◌≡◌, ◌+◌, ◌-◌, ◌*◌, length, List, [], ◌∷◌, ◌++◌, ℕ, take, drop, sym, ◌∙◌, ap, arith}
use Rattle.card_layout.specs.Fields.{total_width}
use Rattle.event_model.specs.declared.entries.Held.{Held}
use Rattle.note_model.specs.Tables.{widths_of, held_in}
use Rattle.unit_notes.proofs.Choosing.{row_in, held_first, held_more, length-held_first}
use Rattle.unit_notes.proofs.tables.held_table.Goals as goal

pub push-requires : goal.push-requires
push-requires c =
    let len : length c.loop-index.held.items ≡ c.loop-index.index = ap length c.loop-index.invariant ∙ length-held_first c.args.kind c.args.table.now c.loop-index.index in
    omega (arith, len, c.count_of-index-end.ensures.most, c.loop-index-test.true)

pub loop-index-preserved : goal.loop-index-preserved
loop-index-preserved c =
    let i = c.loop-index.index in
    let w = c.width_of-width.result in
    let place : i * w ≡ i * total_width (widths_of c.args.kind) = ap (λ (n : ℕ). i * n) c.width_of-width.ensures.width in
    let len : i * w + w - i * w ≡ total_width (widths_of c.args.kind) = omega (arith, c.width_of-width.ensures.width) in
    let row : take (i * w + w - i * w) (drop (i * w) c.args.table.now) ≡ row_in c.args.kind c.args.table.now i =
    ap (λ (n : ℕ). take n (drop (i * w) c.args.table.now)) len ∙ ap (λ (n : ℕ). take (total_width (widths_of c.args.kind)) (drop n c.args.table.now)) place in
    c.push.ensures.items
    ∙ ap (λ (h : List Held). h ++ c.held_in.result ∷ []) c.loop-index.invariant
    ∙ ap (λ (h : Held). held_first c.args.kind c.args.table.now i ++ h ∷ []) (c.held_in.ensures ∙ ap (held_in c.args.kind) row)
    ∙ sym (held_more c.args.kind c.args.table.now i)
