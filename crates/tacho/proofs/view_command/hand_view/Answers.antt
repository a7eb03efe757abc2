use Rattle.std.proofs.Common.{◌∙◌, sym, refl}
use Rattle.tacho.proofs.view_command.hand_view.Goals as goal

pub returns-then-is_unit_file-clause-err : goal.returns-then-is_unit_file-clause-err
returns-then-is_unit_file-clause-err c = rw (sym c.is_unit_file.ensures ∙ c.if-is_unit_file.true) refl

pub returns-clause-text : goal.returns-clause-text
returns-clause-text c = rw (sym c.is_unit_file.ensures ∙ c.if-is_unit_file.false) c.hands_view.ensures.text

pub returns-clause-err : goal.returns-clause-err
returns-clause-err c = rw (sym c.is_unit_file.ensures ∙ c.if-is_unit_file.false) c.hands_view.ensures.err
