use Rattle.run_events.proofs.Growing.{second-brings}
use Rattle.run_events.proofs.event_laws.a_second_brings_its_events.Goals as goal

pub returns : goal.returns
returns c = second-brings
