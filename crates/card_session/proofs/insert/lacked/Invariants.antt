use Rattle.std.proofs.Common.{◌≡◌, drop}
use Rattle.card_session.specs.Inserting.{lacked}
use Rattle.card_session.proofs.insert.lacked.Given as goal

abbrev pub invariant-loop-index : goal.invariant-loop-index
invariant-loop-index l = lacked l.mark l.owed ≡ lacked l.mark (drop l.index l.owed)
