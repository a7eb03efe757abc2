use Rattle.std.proofs.Common.{arith}
use Rattle.unit_messages.proofs.Counting.{count_told}
use Rattle.unit_messages.proofs.entries.Entries.count.Goals as goal

pub returns-clause-count : goal.returns-clause-count
returns-clause-count g c =
    count_told c.args.self.now (g.M.Medium.state c.args.unit.now).image c.new-window.result c.pass_from.new.window c.skip.result c.min.result c.requires.entries c.requires.wide
    c.new-window.ensures c.skip.ensures c.min.ensures (λ x told. omega (arith, c.requires.unit, (g.met.M.Medium.coherent c.args.unit.now).sized x told)) c.in_ok-pass_from.ensures.passed
