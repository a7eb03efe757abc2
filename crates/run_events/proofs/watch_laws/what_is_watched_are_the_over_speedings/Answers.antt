use Rattle.run_events.proofs.Pairs.{fasts-are}
use Rattle.run_events.proofs.watch_laws.what_is_watched_are_the_over_speedings.Goals as goal

pub returns : goal.returns
returns c = λ number limit span. fasts-are number limit span
