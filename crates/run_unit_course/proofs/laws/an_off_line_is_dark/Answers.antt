use Rattle.run_unit_course.proofs.Steps.{goes_off, cut_off}
use Rattle.run_unit_course.proofs.laws.an_off_line_is_dark.Goals as goal

pub returns : goal.returns
returns c = record { dark = goes_off; cut = cut_off }
