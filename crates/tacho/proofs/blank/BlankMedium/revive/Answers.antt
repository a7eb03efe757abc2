use Rattle.std.proofs.Common.{sym}
use Rattle.tacho.proofs.NoCard.{blank-stays, blank-revived}
use Rattle.tacho.proofs.blank.BlankMedium.revive.Goals as goal

pub returns-clause-moments : goal.returns-clause-moments
returns-clause-moments c = blank-stays c.args.self.now.broken _

pub returns-clause-cause : goal.returns-clause-cause
returns-clause-cause c = blank-revived c.args.self.now.broken _ (sym c.answer.ensures)
