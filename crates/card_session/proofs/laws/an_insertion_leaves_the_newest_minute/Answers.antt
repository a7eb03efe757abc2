use Rattle.std.proofs.Common.{◌∙◌, ⊎_elim, ap, arith}
use Rattle.card_layout.specs.declared.files.Application.{Application}
use Rattle.card_validity.specs.card_image.Fields.{session_time}
use Rattle.card_session.specs.Sessions.{newest_in, book_of}
use Rattle.card_session.proofs.Valid.{above_zero}
use Rattle.card_session.proofs.Renewing.{newest_first, newest_again, newest_end, ends_answered, closed_renews, closed_answered}
use Rattle.card_session.proofs.laws.an_insertion_leaves_the_newest_minute.Goals as goal

pub returns-clause-open : goal.returns-clause-open
returns-clause-open c = λ app registration odometer now owed x y sound fits long are valid session inserting.
    ⊎_elim (λ none. absurd (omega (arith, none.0, session)))
    (λ some. newest_first app sound x fits registration long odometer now owed are valid (above_zero (session_time app x) session) y some.1) inserting

pub returns-clause-again : goal.returns-clause-again
returns-clause-again c = λ app registration odometer now owed x y sound fits long are valid session inserting.
    ⊎_elim (λ none. absurd (omega (arith, none.0, session)))
    (λ some. newest_again app sound x fits registration long odometer now owed are valid (above_zero (session_time app x) session) y some.1) inserting

pub returns-clause-ended : goal.returns-clause-ended
returns-clause-ended c = λ app registration odometer now owed x y s sound fits long are valid session inserted same knows.
    ⊎_elim (λ none. absurd (omega (arith, none.0, session)))
    (λ some. (
      newest_end app sound x fits registration long odometer now owed are valid (above_zero (session_time app x) session) y some.1,
      knows.minute ∙ ap (λ (p : Application). newest_in (book_of p y)) same ∙ ends_answered app sound x fits registration long odometer now owed are valid (above_zero (session_time app x) session) y some.1,
    )) inserted

pub returns-clause-shut : goal.returns-clause-shut
returns-clause-shut c = λ app registration odometer now owed x y sound fits long valid session inserting.
    ⊎_elim (λ none. (closed_renews app sound x fits registration long now valid session y none.1).newest) (λ some. absurd (some.0 session)) inserting

pub returns-clause-shut_ended : goal.returns-clause-shut_ended
returns-clause-shut_ended c = λ app registration odometer now owed x y s sound fits long valid session inserted same knows.
    ⊎_elim
    (λ none. knows.minute ∙ ap (λ (p : Application). newest_in (book_of p y)) same ∙ closed_answered app sound x fits registration long now valid session y none.1)
    (λ some. absurd (some.0 session)) inserted
