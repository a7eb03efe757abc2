use Rattle.std.proofs.Common.{[]}
use Rattle.link_model.proofs.Runs.{pieces_heard}
use Rattle.link_model.proofs.laws.hears_any_pieces.Goals as goal

pub returns : goal.returns
returns c = pieces_heard c.args.end []
