use Rattle.std.proofs.Common.{rules}
use Rattle.card_files.proofs.ReadingLemmas.{written_again, read_again}
use Rattle.card_files.proofs.application.read_application.Goals as goal

pub returns-clause-bytes : goal.returns-clause-bytes
returns-clause-bytes c = written_again c.args.b.now c.judged.result c.requires (search rules) c.judged.ensures.value

pub returns-clause-reads_back : goal.returns-clause-reads_back
returns-clause-reads_back c = λ app wide good is. read_again c.args.b.now c.judged.result app c.judged.ensures.value wide good is
