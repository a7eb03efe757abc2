use Rattle.run_course.proofs.Travelled.{dark-travelled}
use Rattle.run_course.proofs.second_laws.a_dark_minute_is_travelled.Goals as goal

pub returns : goal.returns
returns c = dark-travelled
