use Rattle.run_course.proofs.Dark.{dark-complete}
use Rattle.run_course.proofs.second_laws.a_dark_minute_stays_complete.Goals as goal

pub returns : goal.returns
returns c = dark-complete
