use Rattle.run_course.proofs.Kept.{selection-heard}
use Rattle.run_course.proofs.moment_laws.a_selection_is_heard.Goals as goal

pub returns : goal.returns
returns c = selection-heard
