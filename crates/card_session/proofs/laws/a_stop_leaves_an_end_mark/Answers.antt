use Rattle.card_session.proofs.Marks.{keeping_mark}
use Rattle.card_session.proofs.Stopping.{closing_mark}
use Rattle.card_session.proofs.laws.a_stop_leaves_an_end_mark.Goals as goal

pub returns-clause-keep : goal.returns-clause-keep
returns-clause-keep c = keeping_mark

pub returns-clause-withdrawal : goal.returns-clause-withdrawal
returns-clause-withdrawal c = closing_mark
