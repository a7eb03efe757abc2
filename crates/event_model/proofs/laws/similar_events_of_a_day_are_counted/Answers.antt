use Rattle.event_model.proofs.Similar.{similar_counted, held_all}
use Rattle.event_model.proofs.laws.similar_events_of_a_day_are_counted.Goals as goal

pub returns-clause-counts : goal.returns-clause-counts
returns-clause-counts c = similar_counted

pub returns-clause-held : goal.returns-clause-held
returns-clause-held c = held_all
