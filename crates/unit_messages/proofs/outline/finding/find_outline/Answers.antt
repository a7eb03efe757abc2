use Rattle.unit_memory.proofs.Told.{told_all}
use Rattle.unit_messages.proofs.outline.finding.find_outline.Goals as goal

-- no outline is known
pub find_next_outline-requires-clause-known : goal.find_next_outline-requires-clause-known
find_next_outline-requires-clause-known g c = told_all (g.M.Medium.state c.args.unit.now).image _ (λ x told. tt)
