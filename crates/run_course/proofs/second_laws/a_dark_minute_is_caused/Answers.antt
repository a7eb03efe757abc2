use Rattle.run_course.proofs.Dark.{dark-caused}
use Rattle.run_course.proofs.second_laws.a_dark_minute_is_caused.Goals as goal

pub returns : goal.returns
returns c = dark-caused
