use Rattle.unit_events.proofs.Bridge.{events-plain}
use Rattle.unit_events.proofs.laws.the_events_of_a_run_without_cards.Goals as goal

pub returns : goal.returns
returns c = events-plain
