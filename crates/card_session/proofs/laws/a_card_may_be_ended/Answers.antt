use Rattle.std.proofs.Common.{⊎_elim, arith}
use Rattle.card_validity.specs.card_image.Fields.{session_time}
use Rattle.card_session.specs.Cards.{grown}
use Rattle.card_session.proofs.Stopping.{asked_at, days_there}
use Rattle.card_session.proofs.Valid.{above_zero}
use Rattle.card_session.proofs.Ended.{keep_ends, open_ends, none_ends}
use Rattle.card_session.proofs.laws.a_card_may_be_ended.Goals as goal

pub returns-clause-keep : goal.returns-clause-keep
returns-clause-keep c = λ s e odometer x y sound fits session valid knows now keeping at.
    keep_ends s.application sound x fits valid (above_zero (session_time s.application x) session) (days_there s x knows) s.registration odometer (grown s.odometer odometer) e y (asked_at s x e.minute now knows) keeping.card at

pub returns-clause-open : goal.returns-clause-open
returns-clause-open c = λ app registration odometer now owed x y sound fits long are valid session inserted.
    ⊎_elim (λ none. absurd (omega (arith, none.0, session)))
    (λ some. open_ends app sound x fits registration long odometer now owed valid are (above_zero (session_time app x) session) some.0 y some.1) inserted

pub returns-clause-shut : goal.returns-clause-shut
returns-clause-shut c = λ app registration odometer now owed x y sound fits long valid session inserted.
    ⊎_elim (λ none. none_ends app sound x fits registration long odometer now owed valid session y none.1) (λ some. absurd (some.0 session)) inserted
