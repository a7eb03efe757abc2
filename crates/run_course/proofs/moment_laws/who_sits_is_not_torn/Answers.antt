use Rattle.run_course.proofs.Lines.{who-sits}
use Rattle.run_course.proofs.moment_laws.who_sits_is_not_torn.Goals as goal

pub returns : goal.returns
returns c = who-sits
