use Rattle.card_match.proofs.Firsts.{files_match, first_dated}
use Rattle.card_match.proofs.files.match_files.Goals as goal

pub returns-clause-matched : goal.returns-clause-matched
returns-clause-matched c = rw c.first.ensures (files_match c.args.unit.now c.args.card.now c.in_ok-all.all c.in_ok-all.ensures.compared)

pub returns-clause-dated : goal.returns-clause-dated
returns-clause-dated c = rw c.first.ensures (first_dated c.in_ok-all.all c.in_ok-all.ensures.dated)
