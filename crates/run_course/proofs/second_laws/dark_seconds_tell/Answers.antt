use Rattle.run_course.proofs.Dark.{dark-tell}
use Rattle.run_course.proofs.second_laws.dark_seconds_tell.Goals as goal

pub returns : goal.returns
returns c = dark-tell
