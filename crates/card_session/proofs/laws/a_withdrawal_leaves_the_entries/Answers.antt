use Rattle.std.proofs.Common.{inr, ⊎_elim}
use Rattle.card_session.proofs.Stopping.{close_leaves, close_ends}
use Rattle.card_session.proofs.laws.a_withdrawal_leaves_the_entries.Goals as goal

pub returns-clause-moments : goal.returns-clause-moments
returns-clause-moments c = λ s act x y sound fits slack covered from next counted least later before goes closing.
    ⊎_elim
    (λ card. close_leaves s.application sound x slack covered from counted least goes act next y later before card)
    (λ ended. inr (close_ends s.application sound x slack covered from counted least goes act next ended.before y fits later before ended.card ended.session))
    closing

pub returns-clause-closed : goal.returns-clause-closed
returns-clause-closed c = λ s act x y sound fits slack covered from next counted least later before goes ended.
    close_ends s.application sound x slack covered from counted least goes act next ended.before y fits later before ended.card ended.session
