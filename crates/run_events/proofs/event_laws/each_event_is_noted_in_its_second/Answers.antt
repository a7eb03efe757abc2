use Rattle.run_events.proofs.Sure.{second-in, none-sure}
use Rattle.run_events.proofs.Ordered.{behind}
use Rattle.run_events.proofs.event_laws.each_event_is_noted_in_its_second.Goals as goal

pub returns : goal.returns
returns c = record { noted = second-in; unsure = none-sure; behind = behind }
