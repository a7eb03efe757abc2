use Rattle.std.proofs.Common.{◌≡◌, false, take}
use Rattle.text_fields.proofs.PieceLemmas.{has}
use Rattle.text_fields.proofs.fields.first_piece.Given as goal

abbrev pub invariant-loop-i : goal.invariant-loop-i
invariant-loop-i l = has l.separator (take l.i l.text) ≡ false
