use Rattle.device_rule.proofs.Staying.{inserted-marks, kept-marks, closed-marks, read-marks}
use Rattle.device_rule.proofs.laws.a_step_takes_no_mark_back.Goals as goal

pub returns-clause-inserted : goal.returns-clause-inserted
returns-clause-inserted g z = λ given now run. inserted-marks given now (g.C.Chip.state z.args.before.now) (g.D.Chip.state z.args.after.now) (g.met.C.Chip.coherent z.args.before.now) run

pub returns-clause-kept : goal.returns-clause-kept
returns-clause-kept g z = λ e late run. kept-marks e (g.C.Chip.state z.args.before.now) (g.D.Chip.state z.args.after.now) (g.met.C.Chip.coherent z.args.before.now) late run

pub returns-clause-closed : goal.returns-clause-closed
returns-clause-closed g z = λ run. closed-marks (g.C.Chip.state z.args.before.now) (g.D.Chip.state z.args.after.now) (g.met.C.Chip.coherent z.args.before.now) run

pub returns-clause-read : goal.returns-clause-read
returns-clause-read g z = λ run. read-marks (g.C.Chip.state z.args.before.now) (g.D.Chip.state z.args.after.now) (g.met.C.Chip.coherent z.args.before.now) run
