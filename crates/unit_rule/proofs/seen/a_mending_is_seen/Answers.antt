use Rattle.unit_rule.proofs.Mended.{mending_view, mended_view}
use Rattle.unit_rule.proofs.seen.a_mending_is_seen.Goals as goal

pub returns : goal.returns
returns c = record { moments = λ a b j x y is. mending_view a b x y j is; mended = mended_view }
