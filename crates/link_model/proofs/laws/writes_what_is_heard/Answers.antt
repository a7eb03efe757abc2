use Rattle.link_model.proofs.Runs.{heard_is_written}
use Rattle.link_model.proofs.laws.writes_what_is_heard.Goals as goal

pub returns : goal.returns
returns c = heard_is_written c.args.end
