use Rattle.run_course.proofs.Moment.{moment-begins}
use Rattle.run_course.proofs.moment_laws.a_moment_begins.Goals as goal

pub returns : goal.returns
returns c = moment-begins
