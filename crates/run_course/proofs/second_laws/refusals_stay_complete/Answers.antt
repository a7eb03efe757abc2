use Rattle.run_course.proofs.Staying.{refused-stays}
use Rattle.run_course.proofs.second_laws.refusals_stay_complete.Goals as goal

pub returns : goal.returns
returns c = refused-stays
