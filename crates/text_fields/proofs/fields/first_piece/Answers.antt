use Rattle.std.proofs.Common.{arith, ◌≤◌, length}
use Rattle.std.proofs.lemmas.List.{take_all}
use Rattle.text_fields.proofs.PieceLemmas.{pieces-at, pieces-none}
use Rattle.text_fields.proofs.fields.first_piece.Goals as goal

pub returns-then-byte-separator-clause-pieces : goal.returns-then-byte-separator-clause-pieces
returns-then-byte-separator-clause-pieces c =
    pieces-at c.args.separator c.args.text.now c.loop-i.i (omega arith) c.loop-i.invariant c.if-byte-separator.true

pub returns-clause-pieces : goal.returns-clause-pieces
returns-clause-pieces c =
    let end : length c.args.text.now ≤ c.loop-i.i = omega arith in
    pieces-none c.args.separator c.args.text.now (rw (take_all c.loop-i.i c.args.text.now end) at c.loop-i.invariant)
