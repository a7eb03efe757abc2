use Rattle.device_calls.proofs.MinuteSaid.{ready_sitting, sitting_on}
use Rattle.device_calls.proofs.step_laws.a_card_sits_on.Goals as goal

pub returns-clause-ready : goal.returns-clause-ready
returns-clause-ready g c = λ t w hands e sits may. ready_sitting t w hands e (g.C.Chip.state c.args.before.now) sits may

pub returns-clause-goes_on : goal.returns-clause-goes_on
returns-clause-goes_on g c = λ s t w hands e same sizes at sits may said.
    sitting_on s t w hands e (g.C.Chip.state c.args.before.now) (g.D.Chip.state c.args.after.now) same sizes at (ready_sitting s w hands e (g.C.Chip.state c.args.before.now) sits may) said
