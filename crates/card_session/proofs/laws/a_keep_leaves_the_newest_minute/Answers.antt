use Rattle.card_session.specs.Cards.{grown}
use Rattle.card_session.proofs.Stopping.{asked_at, days_there}
use Rattle.card_session.proofs.NewestStays.{newest_before, newest_after}
use Rattle.card_session.proofs.laws.a_keep_leaves_the_newest_minute.Goals as goal

pub returns-clause-before : goal.returns-clause-before
returns-clause-before c = λ s e odometer x y sound knows now keeping same.
    newest_before s.application sound x (days_there s x knows) s.registration odometer (grown s.odometer odometer) e (asked_at s x e.minute now knows) y keeping.card same

pub returns-clause-after : goal.returns-clause-after
returns-clause-after c = λ s e odometer x y sound knows now keeping at.
    newest_after s.application sound x (days_there s x knows) s.registration odometer (grown s.odometer odometer) e (asked_at s x e.minute now knows) y keeping.card at
