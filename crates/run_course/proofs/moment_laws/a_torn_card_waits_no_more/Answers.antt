use Rattle.run_course.proofs.Telling.{waits-no_more}
use Rattle.run_course.proofs.moment_laws.a_torn_card_waits_no_more.Goals as goal

pub returns : goal.returns
returns c = waits-no_more
