use Rattle.run_course.proofs.Complete.{more-marks}
use Rattle.run_course.proofs.second_laws.more_marks_stay.Goals as goal

pub returns : goal.returns
returns c = more-marks
