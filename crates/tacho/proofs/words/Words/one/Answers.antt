use Rattle.std.proofs.Common.{arith}
use Rattle.tacho.proofs.WordLists.{one-word}
use Rattle.tacho.proofs.words.Words.one.Goals as goal

pub returns-clause-found : goal.returns-clause-found
returns-clause-found c = one-word c.args.self.now c.get.result.now (omega (arith, c.len.ensures, c.if-len-ne1.false)) c.get.ensures
