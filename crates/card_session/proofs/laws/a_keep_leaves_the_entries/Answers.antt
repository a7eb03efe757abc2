use Rattle.card_session.specs.Cards.{grown}
use Rattle.card_session.proofs.Stopping.{keep_leaves, asked_at}
use Rattle.card_session.proofs.laws.a_keep_leaves_the_entries.Goals as goal

pub returns : goal.returns
returns c = λ s e odometer x y sound knows now clear slack covered from counted least later goes keeping.
    keep_leaves s.application sound x slack covered from counted least goes s.registration odometer (grown s.odometer odometer) e y (asked_at s x e.minute now knows) later clear keeping.card
