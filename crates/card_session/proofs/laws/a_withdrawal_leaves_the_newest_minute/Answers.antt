use Rattle.card_session.proofs.Renewing.{closing_renews, renewed_stored}
use Rattle.card_session.proofs.laws.a_withdrawal_leaves_the_newest_minute.Goals as goal

pub returns-clause-newest : goal.returns-clause-newest
returns-clause-newest c = λ s act x y sound fits knows closing. (closing_renews s act x y sound fits knows closing).newest

pub returns-clause-word : goal.returns-clause-word
returns-clause-word c = λ s act x y sound fits knows closing. (closing_renews s act x y sound fits knows closing).word

pub returns-clause-stored : goal.returns-clause-stored
returns-clause-stored c = λ s act x y sound fits knows closing. renewed_stored s.application x y (closing_renews s act x y sound fits knows closing)
