use Rattle.card_session.specs.Cards.{grown}
use Rattle.card_session.proofs.Stopping.{keep_shows, asked_at, days_there}
use Rattle.card_session.proofs.laws.a_keep_shows_the_entries_of_before.Goals as goal

pub returns : goal.returns
returns c = λ s e odometer x y sound knows now clear all up shown keeping same.
    keep_shows s.application sound x (days_there s x knows) all up shown s.registration odometer (grown s.odometer odometer) e y (asked_at s x e.minute now knows) clear keeping.card same
