use Rattle.safety_laws.proofs.Again.{ends_again}
use Rattle.safety_laws.proofs.session_laws.a_stopped_insertion_ends_with_the_same_entries.Goals as goal

pub returns : goal.returns
returns c = λ image ready owed left ended asked off again. ends_again image ready owed left off asked ended again
