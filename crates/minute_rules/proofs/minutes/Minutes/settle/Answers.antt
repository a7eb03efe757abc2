use Rattle.std.proofs.Common.{List, ◌++◌, ◌∙◌, ap, sym}
use Rattle.minute_model.specs.declared.Minute.{Minute}
use Rattle.minute_model.specs.Span.{decided_in}
use Rattle.minute_rules.proofs.Giving.{settled-stands, settled-given}
use Rattle.minute_rules.proofs.minutes.Minutes.settle.Goals as goal

pub returns-clause-settled : goal.returns-clause-settled
returns-clause-settled c = λ span h. settled-stands span _ (rw (← c.self.view_is) at h)

pub returns-clause-given : goal.returns-clause-given
returns-clause-given c = λ span h. settled-given span c.args.self.now h ∙ ap (λ (ms : List Minute). decided_in span ++ ms) (sym c.owed-decided.ensures)
