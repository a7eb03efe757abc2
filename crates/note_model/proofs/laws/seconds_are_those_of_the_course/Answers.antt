use Rattle.note_model.proofs.Told.{told_same}
use Rattle.note_model.proofs.laws.seconds_are_those_of_the_course.Goals as goal

pub returns : goal.returns
returns c = told_same
