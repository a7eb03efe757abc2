use Rattle.std.proofs.Common.{arith}
use Rattle.tacho.proofs.WordLists.{three-words}
use Rattle.tacho.proofs.words.Words.three.Goals as goal

pub returns-clause-found : goal.returns-clause-found
returns-clause-found c =
    three-words c.args.self.now c.get.result.now c.get-2.result.now c.get-3.result.now (omega (arith, c.len.ensures, c.if-len-ne3.false))
    c.get.ensures c.get-2.ensures c.get-3.ensures
