use Rattle.std.proofs.Common.{⊎_elim, arith}
use Rattle.card_validity.specs.card_image.Fields.{session_time}
use Rattle.card_session.proofs.Valid.{above_zero}
use Rattle.card_session.proofs.Renewing.{stored_stands, closed_stored}
use Rattle.card_session.proofs.laws.an_insertion_leaves_the_stored_time.Goals as goal

pub returns-clause-open : goal.returns-clause-open
returns-clause-open c = λ app registration odometer now owed x y sound fits long are valid session inserting.
    ⊎_elim (λ none. absurd (omega (arith, none.0, session)))
    (λ some. stored_stands app sound x fits registration long odometer now owed are valid (above_zero (session_time app x) session) y some.1) inserting

pub returns-clause-shut : goal.returns-clause-shut
returns-clause-shut c = λ app registration odometer now owed x y sound fits long valid session inserting.
    ⊎_elim (λ none. closed_stored app sound x fits registration long now valid session y none.1) (λ some. absurd (some.0 session)) inserting
