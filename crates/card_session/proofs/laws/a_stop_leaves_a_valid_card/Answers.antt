use Rattle.std.proofs.Common.{⊎_elim}
use Rattle.card_session.specs.Cards.{grown}
use Rattle.card_session.proofs.Stopping.{asked_at, days_there, ended_not}
use Rattle.card_session.proofs.Valid.{keep_valid, close_valid}
use Rattle.card_session.proofs.laws.a_stop_leaves_a_valid_card.Goals as goal

pub returns-clause-keep : goal.returns-clause-keep
returns-clause-keep c = λ s e odometer x y sound fits session valid knows now keeping.
    keep_valid s.application sound x fits valid session (days_there s x knows) s.registration odometer (grown s.odometer odometer) e y (asked_at s x e.minute now knows) keeping.card

pub returns-clause-withdrawal : goal.returns-clause-withdrawal
returns-clause-withdrawal c = λ s act x y sound fits session valid knows closing still.
    ⊎_elim (λ card. close_valid s.application sound x fits valid session (days_there s x knows) act y knows.book card) (λ ended. absurd (ended_not s act x y fits ended still)) closing
