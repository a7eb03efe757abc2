use Rattle.std.proofs.Common.{⊎_elim}
use Rattle.card_session.proofs.Stopping.{days_there}
use Rattle.card_session.proofs.Committed.{close_shows, end_shows}
use Rattle.card_session.proofs.laws.a_withdrawal_shows_the_entries.Goals as goal

pub returns : goal.returns
returns c = λ s act x y sound fits knows all up shown closing.
    ⊎_elim
    (λ card. close_shows s.application sound x (days_there s x knows) all up shown act y card)
    (λ ended. end_shows s.application sound x (days_there s x knows) all up shown act ended.before y fits ended.card ended.session)
    closing
