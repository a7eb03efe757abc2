use Rattle.run_acts.proofs.EventCrews.{torn-named}
use Rattle.run_acts.proofs.kept_events.the_cards_behind_a_tear_are_named.Goals as goal

pub returns : goal.returns
returns c = torn-named
