use Rattle.file_json.proofs.Stringing.{all_told, many_told}
use Rattle.file_json.proofs.laws.the_newest_days_of_a_card_are_told.Goals as goal

pub returns-clause-all : goal.returns-clause-all
returns-clause-all c = all_told

pub returns-clause-many : goal.returns-clause-many
returns-clause-many c = many_told
