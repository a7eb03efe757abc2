use Rattle.std.proofs.Common.{ℕ, List, Option, IfSome, subst, refl}
use Rattle.device_state.specs.Units.{TellsUnit}
use Rattle.device_state.proofs.ToldUnits.{bad-told}
use Rattle.device_state.proofs.unit.unit_state.Goals as goal

pub returns-in-Ok-clause-told : goal.returns-in-Ok-clause-told
returns-in-Ok-clause-told g c = subst (λ (o : Option (List ℕ)). IfSome o (TellsUnit c.args.seen.now c.told_by.result)) (c.in-Ok.ensures.reads.same refl) c.told_by.ensures.told

pub returns-in-Err-clause-told : goal.returns-in-Err-clause-told
returns-in-Err-clause-told g c = bad-told c.args.seen.now (g.M.Medium.state c.args.unit.now).image c.in-Err.fault c.in-Err.ensures.bad
