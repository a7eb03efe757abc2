use Rattle.log_model.proofs.Spanning.{spanned}
use Rattle.log_model.proofs.laws.spans_are_numbered.Goals as goal

pub returns : goal.returns
returns c = λ log ss order. (spanned log c.args.n ss order).apart
