use Rattle.file_json.proofs.Sets.{events_by_type, faults_by_type}
use Rattle.file_json.proofs.laws.the_events_of_a_card_stand_by_their_types.Goals as goal

pub returns-clause-events : goal.returns-clause-events
returns-clause-events c = events_by_type

pub returns-clause-faults : goal.returns-clause-faults
returns-clause-faults c = faults_by_type
