use Rattle.link_model.proofs.Shapes.{same_stream}
use Rattle.link_model.proofs.laws.one_reading.Goals as goal

pub returns : goal.returns
returns c = same_stream c.args.end
