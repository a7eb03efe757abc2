use Rattle.std.proofs.Common.{arith}
use Rattle.tacho.proofs.WordLists.{two-words}
use Rattle.tacho.proofs.words.Words.two.Goals as goal

pub returns-clause-found : goal.returns-clause-found
returns-clause-found c =
    two-words c.args.self.now c.get.result.now c.get-2.result.now (omega (arith, c.len.ensures, c.if-len-ne2.false)) c.get.ensures c.get-2.ensures
