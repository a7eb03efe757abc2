use Rattle.noisy_model.proofs.Spelling.{read_written, written_read}
use Rattle.noisy_link.proofs.laws.packets_are_read_as_written.Goals as goal

pub returns-clause-read : goal.returns-clause-read
returns-clause-read c = read_written

pub returns-clause-written : goal.returns-clause-written
returns-clause-written c = written_read
