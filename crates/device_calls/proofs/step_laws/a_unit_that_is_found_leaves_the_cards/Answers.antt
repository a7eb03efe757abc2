use Rattle.device_calls.proofs.PowerBack.{found-rests}
use Rattle.device_calls.proofs.step_laws.a_unit_that_is_found_leaves_the_cards.Goals as goal

pub returns : goal.returns
returns g c = λ r card s due b marks z x h run works is rests.
    found-rests r card s due b marks z (g.M.Medium.state c.args.before.now) (g.N.Medium.state c.args.after.now) (g.C.Chip.state c.args.card.now) (g.met.M.Medium.coherent c.args.before.now) (g.met.N.Medium.coherent c.args.after.now) h run works x is rests
