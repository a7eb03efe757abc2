use Rattle.link_model.proofs.Runs.{written_is_heard}
use Rattle.link_model.proofs.laws.hears_what_is_written.Goals as goal

pub returns : goal.returns
returns c = written_is_heard c.args.end
