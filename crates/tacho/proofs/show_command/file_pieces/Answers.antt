use Rattle.std.proofs.Common.{◌∙◌, sym}
use Rattle.tacho.proofs.show_command.file_pieces.Goals as goal

pub returns-then-is_unit_file-clause-text : goal.returns-then-is_unit_file-clause-text
returns-then-is_unit_file-clause-text c = rw (sym c.is_unit_file.ensures ∙ c.if-is_unit_file.true) c.pieces_of_unit.ensures.text

pub returns-then-is_unit_file-clause-err : goal.returns-then-is_unit_file-clause-err
returns-then-is_unit_file-clause-err c = rw (sym c.is_unit_file.ensures ∙ c.if-is_unit_file.true) c.pieces_of_unit.ensures.err

pub returns-clause-text : goal.returns-clause-text
returns-clause-text c = rw (sym c.is_unit_file.ensures ∙ c.if-is_unit_file.false) c.pieces_of_card.ensures.text

pub returns-clause-err : goal.returns-clause-err
returns-clause-err c = rw (sym c.is_unit_file.ensures ∙ c.if-is_unit_file.false) c.pieces_of_card.ensures.err
