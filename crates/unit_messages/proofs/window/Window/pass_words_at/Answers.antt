use Rattle.std.proofs.Common.{◌≡◌, ◌*◌, length, rules}
use Rattle.unit_messages.proofs.Windows.{words_told}
use Rattle.unit_messages.proofs.window.Window.pass_words_at.Goals as goal

pub returns-clause-passed : goal.returns-clause-passed
returns-clause-passed g c =
    let taken = c.words_taken-taken.result in
    let long : length c.read_some.new.out ≡ 2 * taken = search rules in
    words_told c.pass_words.new.self c.args.self.now c.pass_over.new.self (g.M.Medium.state c.args.unit.now).image c.read_some.new.out c.args.place c.args.count c.words_over-over.result taken _
    c.pass_over.ensures.room c.words_over-over.ensures c.pass_over.ensures.skip c.pass_over.ensures.held
    c.words_taken-taken.ensures (c.pass_words.ensures.spelled taken long) long c.pass_words.ensures.passed (search rules) c.in_ok-read_some.ensures.bytes
