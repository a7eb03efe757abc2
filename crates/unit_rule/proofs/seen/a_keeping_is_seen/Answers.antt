use Rattle.unit_rule.proofs.Keeping.{keeping_view, kept_view}
use Rattle.unit_rule.proofs.seen.a_keeping_is_seen.Goals as goal

pub returns : goal.returns
returns c = record { moments = keeping_view; kept = kept_view }
