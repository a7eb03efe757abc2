use Rattle.trace_text.proofs.Texts.{lines_of-next, lines_of-last}
use Rattle.trace_text.proofs.read.next_line.Goals as goal

pub returns-in-Some-clause-lines : goal.returns-in-Some-clause-lines
returns-in-Some-clause-lines c =
    lines_of-next c.args.text.now c.first_piece.result.0.now c.in-Some.rest.now (rw c.in-Some.is at c.first_piece.ensures.pieces)

pub returns-in-None-clause-lines : goal.returns-in-None-clause-lines
returns-in-None-clause-lines c =
    lines_of-last c.args.text.now c.first_piece.result.0.now c.requires (rw c.in-None.is at c.first_piece.ensures.pieces)
