use Rattle.failure_lines.proofs.turned_away.verdict_line.Goals as goal

pub returns-in-NotValid : goal.returns-in-NotValid
returns-in-NotValid c = rw c.in-NotValid.is c.turned_text.ensures

pub returns-in-TimeOverlap : goal.returns-in-TimeOverlap
returns-in-TimeOverlap c = rw c.in-TimeOverlap.is c.turned_text-in-TimeOverlap.ensures
