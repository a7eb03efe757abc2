use Rattle.device_calls.proofs.PowerBack.{read-rests}
use Rattle.device_calls.proofs.step_laws.a_card_that_was_read_rests.Goals as goal

pub returns : goal.returns
returns g c = λ r card b z run rests. read-rests r card b z (g.M.Medium.state c.args.unit.now) (g.C.Chip.state c.args.before.now) (g.D.Chip.state c.args.after.now) (g.met.C.Chip.coherent c.args.before.now) run rests
