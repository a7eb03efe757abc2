use Rattle.std.proofs.Common.{⊎_elim, arith}
use Rattle.card_validity.specs.card_image.Fields.{session_time}
use Rattle.card_session.proofs.Valid.{above_zero}
use Rattle.card_session.proofs.Revalid.{again_valid}
use Rattle.card_session.proofs.Unclosed.{none_valid}
use Rattle.card_session.proofs.laws.a_stop_in_an_insertion_leaves_a_valid_card.Goals as goal

pub returns-clause-open : goal.returns-clause-open
returns-clause-open c = λ app registration odometer now owed x y sound fits long are valid session inserting.
    ⊎_elim (λ none. absurd (omega (arith, none.0, session)))
    (λ some. again_valid app sound x fits registration long odometer now owed are.0 valid (above_zero (session_time app x) session) y some.0 some.1) inserting

pub returns-clause-shut : goal.returns-clause-shut
returns-clause-shut c = λ app registration odometer now owed x y sound fits long valid session inserting.
    ⊎_elim (λ none. none_valid app sound x fits registration long odometer now owed valid session y none.1) (λ some. absurd (some.0 session)) inserting
