use Rattle.std.proofs.Common.{◌∙◌, sym}
use Rattle.unit_memory.proofs.Told.{one_told}
use Rattle.unit_messages.proofs.entries.Entries.pass_some_of.Goals as goal

pub returns-then-count-all-clause-passed : goal.returns-then-count-all-clause-passed
returns-then-count-all-clause-passed g c =
    one_told (g.M.Medium.state c.args.unit.now).image _ c.in_ok-pass_each.ensures.passed (λ x after many. after (sym many ∙ c.if-count-all.true))

pub returns-clause-passed : goal.returns-clause-passed
returns-clause-passed g c = one_told (g.M.Medium.state c.args.unit.now).image _ c.in_ok-pass.ensures.passed (λ x after many. after)
