use Rattle.file_json.proofs.LastDays.{all_days, days_are_newest, others_are_told}
use Rattle.file_json.proofs.laws.the_last_days_of_a_unit_file_are_told.Goals as goal

pub returns-clause-all : goal.returns-clause-all
returns-clause-all c = all_days

pub returns-clause-days : goal.returns-clause-days
returns-clause-days c = days_are_newest

pub returns-clause-others : goal.returns-clause-others
returns-clause-others c = others_are_told
