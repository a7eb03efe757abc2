use Rattle.card_validity.specs.card_image.Fields.{session_time}
use Rattle.card_session.specs.Cards.{grown}
use Rattle.card_session.proofs.Stopping.{asked_at, days_there}
use Rattle.card_session.proofs.Valid.{above_zero}
use Rattle.card_session.proofs.Renewing.{keep_stored, keep_word}
use Rattle.card_session.proofs.laws.a_keep_leaves_the_stored_time.Goals as goal

pub returns-clause-stored : goal.returns-clause-stored
returns-clause-stored c = λ s e odometer x y session knows now keeping.
    keep_stored s.application x s.registration odometer (grown s.odometer odometer) e y keeping.card (above_zero (session_time s.application x) session)

pub returns-clause-word : goal.returns-clause-word
returns-clause-word c = λ s e odometer x y sound knows now keeping at.
    keep_word s.application x s.registration odometer (grown s.odometer odometer) e y keeping.card sound (days_there s x knows) (asked_at s x e.minute now knows) at
