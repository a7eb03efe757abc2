use Rattle.device_calls.proofs.TimedCalls.{keeping-timed, closing-timed, inserting-timed, noting-timed}
use Rattle.device_calls.proofs.time_laws.the_last_use_is_whole.Goals as goal

pub returns-clause-kept : goal.returns-clause-kept
returns-clause-kept g c = λ first n s hands e odometer low timed sized session run. keeping-timed first n (g.C.Chip.state c.args.before.now) (g.D.Chip.state c.args.after.now) low (g.met.C.Chip.coherent c.args.before.now) timed s hands e odometer sized session run

pub returns-clause-closed : goal.returns-clause-closed
returns-clause-closed g c = λ first n s act low timed sound size sized run. closing-timed first n (g.C.Chip.state c.args.before.now) (g.D.Chip.state c.args.after.now) low (g.met.C.Chip.coherent c.args.before.now) timed s act sound size sized run

pub returns-clause-inserted : goal.returns-clause-inserted
returns-clause-inserted g c = λ first n app registration odometer now owed low timed sound size sized long run. inserting-timed first n (g.C.Chip.state c.args.before.now) (g.D.Chip.state c.args.after.now) low (g.met.C.Chip.coherent c.args.before.now) timed app sound size sized registration long odometer now owed run

pub returns-clause-noted : goal.returns-clause-noted
returns-clause-noted g c = λ first n app low timed sound sized valid run. noting-timed first n (g.C.Chip.state c.args.before.now) (g.D.Chip.state c.args.after.now) low (g.met.C.Chip.coherent c.args.before.now) timed app sound sized valid run
