use Rattle.std.proofs.Common.{◌≡◌, true, false, rules}
use Rattle.unit_messages.proofs.Passing.{kept_out, passed_by}
use Rattle.unit_messages.proofs.entries.Entries.pass_read.Goals as goal

pub returns-then-not-takes : goal.returns-then-not-takes
returns-then-not-takes c =
    let missed : c.takes-takes.result ≡ false = search rules in
    kept_out c.args.self.now c.args.entry.now c.args.window.now c.takes-takes.result c.takes-takes.ensures missed

pub returns : goal.returns
returns c =
    let met : c.takes-takes.result ≡ true = search rules in
    passed_by c.args.self.now c.args.entry.now c.pass.new.self c.args.window.now c.takes-takes.result c.takes-takes.ensures met c.pass.ensures
