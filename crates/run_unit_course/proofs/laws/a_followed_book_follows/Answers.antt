use Rattle.run_unit_course.proofs.Steps.{is_followed}
use Rattle.run_unit_course.proofs.laws.a_followed_book_follows.Goals as goal

pub returns : goal.returns
returns c = is_followed
