use Rattle.std.proofs.Common.{Option, IfSome, subst}
use Rattle.unit_memory.proofs.Told.{one_told}
use Rattle.unit_messages.specs.Counts.{AreCounted}
use Rattle.unit_messages.specs.declared.outline.counts.Counts.{Counts}
use Rattle.unit_messages.proofs.Calls.{no_call}
use Rattle.unit_messages.proofs.outline.finding.counts_on.Goals as goal

-- the date is one of those that are known
pub returns-in-Some-date_index-clause-counted : goal.returns-in-Some-date_index-clause-counted
returns-in-Some-date_index-clause-counted g c =
    one_told (g.M.Medium.state c.args.unit.now).image _ c.requires.known (λ x is. subst (λ (o : Option Counts). IfSome o (λ k. AreCounted k x)) c.in-Some.is (c.counts_known.ensures.counted x is))

pub returns-in-Some-date_index-clause-reads : goal.returns-in-Some-date_index-clause-reads
returns-in-Some-date_index-clause-reads g c = no_call (g.M.Medium.state c.args.unit.now)
