use Rattle.std.proofs.Common.{⊎_elim}
use Rattle.card_validity.specs.card_image.Fields.{session_time}
use Rattle.card_session.proofs.Stopping.{days_there}
use Rattle.card_session.proofs.Valid.{above_zero, close_valid}
use Rattle.card_session.proofs.Ended.{closed_ends}
use Rattle.card_session.proofs.laws.a_withdrawal_leaves_a_valid_card.Goals as goal

pub returns : goal.returns
returns c = λ s act x y sound fits session valid ends knows closing.
    ⊎_elim
    (λ card. close_valid s.application sound x fits valid session (days_there s x knows) act y knows.book card)
    (λ done.
    closed_ends s.application sound x fits valid (above_zero (session_time s.application x) session) (days_there s x knows) act done.before y knows.card.points knows.book ends done.card done.session) closing
