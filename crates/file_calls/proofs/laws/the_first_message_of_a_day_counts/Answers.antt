use Rattle.file_calls.proofs.FirstMessage.{first_counts, same_days}
use Rattle.file_calls.proofs.laws.the_first_message_of_a_day_counts.Goals as goal

pub returns-clause-first : goal.returns-clause-first
returns-clause-first c = λ messages minute. first_counts messages minute

pub returns-clause-days : goal.returns-clause-days
returns-clause-days c = λ messages day. same_days messages day
