use Rattle.std.proofs.Common.{◌∙◌, sym}
use Rattle.text_fields.proofs.PieceLemmas.{one_not_more}
use Rattle.text_fields.proofs.fields.one_field.Goals as goal

pub returns-in-Some-clause-none : goal.returns-in-Some-clause-none
returns-in-Some-clause-none c = λ a h.
    let whole = rw c.in-Some.is at c.first_piece.ensures.pieces in
    one_not_more 32 c.first_piece.result.0.now c.in-Some.field-0.now a (sym whole ∙ h)
