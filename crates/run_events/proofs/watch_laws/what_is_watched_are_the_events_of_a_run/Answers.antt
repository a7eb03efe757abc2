use Rattle.run_events.proofs.Pairs.{bare_events-are, over_events-are}
use Rattle.run_events.proofs.watch_laws.what_is_watched_are_the_events_of_a_run.Goals as goal

pub returns : goal.returns
returns c = record { bares = λ number log ss. bare_events-are number log ss; overs = λ number limit log ss. over_events-are number limit log ss }
