use Rattle.run_course.proofs.Presence.{nobody-sits}
use Rattle.run_course.proofs.second_laws.nobody_sits_at_the_start.Goals as goal

pub returns : goal.returns
returns c = nobody-sits
