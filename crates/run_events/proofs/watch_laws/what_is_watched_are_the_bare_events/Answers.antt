use Rattle.run_events.proofs.Pairs.{bares-are}
use Rattle.run_events.proofs.watch_laws.what_is_watched_are_the_bare_events.Goals as goal

pub returns : goal.returns
returns c = λ number span. bares-are number span
