use Rattle.event_model.specs.Events.{seen_of}
use Rattle.run_events.specs.Choice.{chosen, told_at}
use Rattle.run_events.proofs.Choosing.{choices-same, all-agree, torn-more}
use Rattle.run_events.proofs.event_laws.a_choice_of_one_second_changes_no_other.Goals as goal

pub returns : goal.returns
returns c = record {
  events = λ n here t own sessions kind limit log done early. choices-same t (chosen n here t) sessions (told_at n own sessions) kind limit log done (all-agree n here t own sessions (seen_of log done) early);
  fits = torn-more;
}
