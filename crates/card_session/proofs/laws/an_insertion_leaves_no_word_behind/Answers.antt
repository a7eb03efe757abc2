use Rattle.std.proofs.Common.{⊎_elim, arith}
use Rattle.card_validity.specs.card_image.Fields.{session_time}
use Rattle.card_session.proofs.Valid.{above_zero}
use Rattle.card_session.proofs.Renewing.{moments_low, ends_low, closed_renews}
use Rattle.card_session.proofs.laws.an_insertion_leaves_no_word_behind.Goals as goal

pub returns-clause-open : goal.returns-clause-open
returns-clause-open c = λ app registration odometer now owed x y sound fits long are valid session inserting none.
    ⊎_elim (λ zero. absurd (omega (arith, zero.0, session)))
    (λ some. moments_low app sound x fits registration long odometer now owed are valid (above_zero (session_time app x) session) y some.1 none) inserting

pub returns-clause-ended : goal.returns-clause-ended
returns-clause-ended c = λ app registration odometer now owed x y sound fits long are valid session inserted.
    ⊎_elim (λ zero. absurd (omega (arith, zero.0, session)))
    (λ some. ends_low app sound x fits registration long odometer now owed are valid (above_zero (session_time app x) session) y some.1) inserted

pub returns-clause-shut : goal.returns-clause-shut
returns-clause-shut c = λ app registration odometer now owed x y sound fits long valid session inserting.
    ⊎_elim (λ none. (closed_renews app sound x fits registration long now valid session y none.1).word) (λ some. absurd (some.0 session)) inserting
