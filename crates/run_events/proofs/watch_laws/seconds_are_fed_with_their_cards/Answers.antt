use Rattle.run_events.proofs.CrewsFed.{one-fed, still-seen, still-quiet, still-fed}
use Rattle.run_events.proofs.watch_laws.seconds_are_fed_with_their_cards.Goals as goal

pub returns : goal.returns
returns c = record { one = one-fed; seen = still-seen; quiet = still-quiet; fed = still-fed }
