use Rattle.unit_messages.proofs.Windows.{words_spelled}
use Rattle.unit_messages.proofs.window.Window.pass_words.Goals as goal

pub returns-clause-spelled : goal.returns-clause-spelled
returns-clause-spelled c = λ n long. words_spelled c.args.bytes.now n (λ k. (c.type_inv.bytes k).fits) long
