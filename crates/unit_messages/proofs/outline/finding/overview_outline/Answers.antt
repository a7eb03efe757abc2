use Rattle.std.proofs.Common.{refl}
use Rattle.unit_memory.proofs.Told.{one_told}
use Rattle.unit_messages.proofs.outline.finding.overview_outline.Goals as goal

pub returns-clause-outlined : goal.returns-clause-outlined
returns-clause-outlined g c = one_told (g.M.Medium.state c.args.unit.now).image _ c.in_ok-times.ensures.times (λ x is. (refl, is))
