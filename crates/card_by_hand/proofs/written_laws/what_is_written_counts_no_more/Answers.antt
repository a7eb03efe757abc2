use Rattle.card_by_hand.proofs.Written.{among_wider, written_wider}
use Rattle.card_by_hand.proofs.written_laws.what_is_written_counts_no_more.Goals as goal

pub returns-clause-counted : goal.returns-clause-counted
returns-clause-counted c = λ covered next after start ws rises low. written_wider covered next after start ws rises low

pub returns-clause-among : goal.returns-clause-among
returns-clause-among c = λ days some all part. among_wider days some all part
