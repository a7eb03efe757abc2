use Rattle.run_acts.proofs.EventCrews.{cards-named}
use Rattle.run_acts.proofs.kept_events.the_cards_of_a_moment_are_named.Goals as goal

pub returns : goal.returns
returns c = cards-named
