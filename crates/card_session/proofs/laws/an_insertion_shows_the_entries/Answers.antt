use Rattle.std.proofs.Common.{⊎_elim, arith}
use Rattle.card_validity.specs.card_image.Fields.{session_time}
use Rattle.card_session.proofs.Valid.{above_zero}
use Rattle.card_session.proofs.Shown.{shows_owed, shows_all, shows_closed}
use Rattle.card_session.proofs.laws.an_insertion_shows_the_entries.Goals as goal

pub returns-clause-open : goal.returns-clause-open
returns-clause-open c = λ app registration odometer now owed x y sound fits long are valid session begins all up shown inserting.
    ⊎_elim (λ none. absurd (omega (arith, none.0, session)))
    (λ some. shows_owed app sound x fits registration long odometer now owed are.0 valid (above_zero (session_time app x) session) begins all up shown y some.1) inserting

pub returns-clause-ended : goal.returns-clause-ended
returns-clause-ended c = λ app registration odometer now owed x y sound fits long are valid session begins all up shown inserted.
    ⊎_elim (λ none. absurd (omega (arith, none.0, session)))
    (λ some. shows_all app sound x fits registration long odometer now owed are.0 valid (above_zero (session_time app x) session) begins all up shown y some.1) inserted

pub returns-clause-shut : goal.returns-clause-shut
returns-clause-shut c = λ app registration odometer now owed x y sound fits long session all up shown inserting.
    ⊎_elim (λ none. shows_closed app sound x fits registration long now all up shown y none.1) (λ some. absurd (some.0 session)) inserting
