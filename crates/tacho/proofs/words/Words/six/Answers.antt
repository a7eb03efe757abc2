use Rattle.std.proofs.Common.{arith}
use Rattle.tacho.proofs.WordLists.{six-words}
use Rattle.tacho.proofs.words.Words.six.Goals as goal

pub returns-clause-found : goal.returns-clause-found
returns-clause-found c =
    six-words c.args.self.now c.get.result.now c.get-2.result.now c.get-3.result.now c.get-4.result.now c.get-5.result.now c.get-6.result.now (omega (arith, c.len.ensures, c.if-len-ne6.false))
    c.get.ensures c.get-2.ensures c.get-3.ensures c.get-4.ensures c.get-5.ensures c.get-6.ensures
