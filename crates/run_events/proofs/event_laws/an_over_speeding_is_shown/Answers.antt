use Rattle.run_events.proofs.Frames.{over-more, over-coming}
use Rattle.run_events.proofs.event_laws.an_over_speeding_is_shown.Goals as goal

pub returns : goal.returns
returns c = record {
  noted = λ number long e there x c sized over card begin end is done. over-more number long e there x c sized over card begin end is done;
  moment = λ number long e there x c sized over card begin end is moment. over-coming number long e there x c sized over card begin end is moment;
}
