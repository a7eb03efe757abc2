use Rattle.std.proofs.Common.{arith, rules}
use Rattle.unit_messages.proofs.Windows.{range_told}
use Rattle.unit_messages.proofs.window.Window.pass_range.Goals as goal

pub returns-clause-passed : goal.returns-clause-passed
returns-clause-passed g c =
    range_told c.take.new.self c.args.self.now (g.M.Medium.state c.args.unit.now).image c.read_some.new.out c.args.place c.args.len c.over-over.result c.taken-taken.result _
    c.over-over.ensures c.taken-taken.ensures.count (search rules) c.take.ensures.skip c.take.ensures.held
    (λ x told. omega (arith, c.requires.inside, (g.met.M.Medium.coherent c.args.unit.now).sized x told)) c.in_ok-read_some.ensures.bytes
