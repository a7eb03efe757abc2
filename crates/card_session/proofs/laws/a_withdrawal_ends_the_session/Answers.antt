use Rattle.card_session.proofs.Stopping.{closed_session}
use Rattle.card_session.proofs.laws.a_withdrawal_ends_the_session.Goals as goal

pub returns : goal.returns
returns c = closed_session
