use Rattle.run_events.proofs.Turned.{turn-ends, turn-stands}
use Rattle.run_events.proofs.watch_laws.what_a_turn_ends_is_what_it_brings.Goals as goal

pub returns : goal.returns
returns c = record { ended = turn-ends; stands = turn-stands }
