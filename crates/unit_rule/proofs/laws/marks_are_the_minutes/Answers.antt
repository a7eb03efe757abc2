use Rattle.unit_rule.proofs.Completing.{marks-front}
use Rattle.unit_rule.proofs.laws.marks_are_the_minutes.Goals as goal

pub returns : goal.returns
returns c = marks-front
