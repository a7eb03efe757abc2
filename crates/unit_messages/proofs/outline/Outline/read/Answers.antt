use Rattle.std.proofs.Common.{arith}
use Rattle.unit_memory.proofs.Told.{told_all}
use Rattle.unit_messages.proofs.Joints.{at_told}
use Rattle.unit_messages.proofs.Lengths.{piece_is}
use Rattle.unit_messages.proofs.outline.Outline.read.Goals as goal

pub returns-clause-piece : goal.returns-clause-piece
returns-clause-piece g c =
    told_all (g.M.Medium.state c.args.unit.now).image _ (λ x told.
    let known = at_told _ x told c.requires.outlines in
    piece_is c.args.self.now x c.args.from c.due-due.result c.new-window.result c.pass.new.window c.into_piece.result.items (omega (arith, c.requires.unit, (g.met.M.Medium.coherent c.args.unit.now).sized x told)) known
    c.new-window.ensures (at_told _ x told c.in_ok-pass.ensures.passed known) c.due-due.ensures.due c.into_piece.ensures.same)
