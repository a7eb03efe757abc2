use Rattle.link_frames.proofs.Runs.{line_answers, line_stands}
use Rattle.link_frames.proofs.laws.a_line_goes_on.Goals as goal

pub returns-clause-answers : goal.returns-clause-answers
returns-clause-answers c = line_answers

pub returns-clause-stands : goal.returns-clause-stands
returns-clause-stands c = line_stands
