use Rattle.std.proofs.Common.{◌<◌, ◌*◌, ℕ, Option, IfSome, sym, ◌∙◌, ap, subst, refl, arith}
use Rattle.event_model.specs.Kinds.{places_of}
use Rattle.note_model.specs.Tables as side
use Rattle.note_model.specs.Tables.{similar_field}
use Rattle.unit_notes.specs.Tables.{rows_in}
use Rattle.unit_notes.proofs.Choosing.{similar_there}
use Rattle.unit_notes.proofs.tables.similar_at.Goals as goal

pub returns : goal.returns
returns c =
    let i = c.in-Some.index in
    let w = c.width_of-width.result in
    let below = subst (λ (o : Option ℕ). IfSome o (λ j. j < places_of c.args.kind)) c.in-Some.is c.requires.below in
    similar_there c.args.kind c.args.table.now i (i * w) w _ c.width_of-width.ensures.width refl (omega arith) below (λ z. c.if-kind-eq-CARD_FAULT.false z)
    ∙ ap (side.similar_at c.args.kind (rows_in c.args.kind c.args.table.now) (similar_field c.args.kind)) (sym c.in-Some.is)
