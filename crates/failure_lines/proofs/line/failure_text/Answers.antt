use Rattle.failure_lines.proofs.line.failure_text.Goals as goal

pub returns : goal.returns
returns c = c.timed_text.ensures
