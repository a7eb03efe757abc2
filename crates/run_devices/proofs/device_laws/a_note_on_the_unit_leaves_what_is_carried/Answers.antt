use Rattle.run_devices.proofs.Noted.{noted-powered, noted-powerless}
use Rattle.run_devices.proofs.device_laws.a_note_on_the_unit_leaves_what_is_carried.Goals as goal

pub returns-clause-noted : goal.returns-clause-noted
returns-clause-noted g c = λ f w cards found run works p. noted-powered f w cards _ _ _ _ found (g.met.M.Medium.coherent c.args.before.now) p run works

pub returns-clause-failed : goal.returns-clause-failed
returns-clause-failed g c = λ f w cards found run p. noted-powerless f w cards _ _ _ _ found (g.met.M.Medium.coherent c.args.before.now) p run
