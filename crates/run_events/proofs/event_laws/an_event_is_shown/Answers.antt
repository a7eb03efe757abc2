use Rattle.run_events.proofs.Frames.{event-more, event-coming}
use Rattle.run_events.proofs.event_laws.an_event_is_shown.Goals as goal

pub returns : goal.returns
returns c = record {
  noted = λ number long e there x c sized v other begin end is done. event-more number long e there x c sized v other begin end is done;
  moment = λ number long e there x c sized v other begin end is moment. event-coming number long e there x c sized v other begin end is moment;
}
