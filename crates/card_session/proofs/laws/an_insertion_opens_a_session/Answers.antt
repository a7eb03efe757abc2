use Rattle.std.proofs.Common.{⊎_elim}
use Rattle.card_session.proofs.InsertingSession.{open_session, open_begun, closed_session, closed_begun}
use Rattle.card_session.proofs.laws.an_insertion_opens_a_session.Goals as goal

pub returns-clause-moments : goal.returns-clause-moments
returns-clause-moments c = λ app registration odometer now owed x y fits long few inserting. ⊎_elim
    (λ none. closed_session app x fits registration long now few odometer owed y none.1)
    (λ some. open_session app x fits registration long now few odometer owed y some.1) inserting

pub returns-clause-inserted : goal.returns-clause-inserted
returns-clause-inserted c = λ app registration odometer now owed x y fits long few inserted. ⊎_elim
    (λ none. closed_begun app x fits registration long now few odometer owed y none.1)
    (λ some. open_begun app x fits registration long now few odometer owed y some.1) inserted
