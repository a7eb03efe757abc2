use Rattle.card_session.specs.Cards.{grown}
use Rattle.card_session.proofs.Stopping.{asked_at, days_there}
use Rattle.card_session.proofs.Committed.{keep_commits, keep_silent}
use Rattle.card_session.proofs.laws.a_keep_shows_its_entry.Goals as goal

pub returns-clause-entry : goal.returns-clause-entry
returns-clause-entry c = λ s e odometer x y sound knows now clear silent all up shown keeping at.
    keep_commits s.application sound x (days_there s x knows) all up shown s.registration odometer (grown s.odometer odometer) e y (asked_at s x e.minute now knows) clear silent keeping.card at

pub returns-clause-silent : goal.returns-clause-silent
returns-clause-silent c = λ s e odometer x y sound knows now keeping at.
    keep_silent s.application sound x (days_there s x knows) s.registration odometer (grown s.odometer odometer) e y (asked_at s x e.minute now knows) keeping.card at
