use Rattle.card_match.proofs.Firsts.{source_matches, first_dated}
use Rattle.card_match.proofs.files.match_source.Goals as goal

pub returns-clause-matched : goal.returns-clause-matched
returns-clause-matched c = rw c.first.ensures (source_matches c.args.b.now c.in_ok-all.all c.in_ok-all.ensures.compared)

pub returns-clause-dated : goal.returns-clause-dated
returns-clause-dated c = rw c.first.ensures (first_dated c.in_ok-all.all c.in_ok-all.ensures.dated)
