use Rattle.card_session.specs.Cards.{grown}
use Rattle.card_session.proofs.Stopping.{days_there, asked_at}
use Rattle.card_by_hand.proofs.Newest.{keep_newest}
use Rattle.card_by_hand.proofs.laws.a_keep_behind_them_leaves_the_newest_minute.Goals as goal

pub returns : goal.returns
returns c = λ s e odometer x y sound knows now clear keeping same shut.
    keep_newest s.application sound x (days_there s x knows) e s.registration odometer (grown s.odometer odometer) y (asked_at s x e.minute now knows) clear keeping.card same shut
