use Rattle.run_course.proofs.Presence.{taken-out}
use Rattle.run_course.proofs.second_laws.a_card_is_taken_out.Goals as goal

pub returns : goal.returns
returns c = taken-out
