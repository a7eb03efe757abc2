use Rattle.card_session.specs.Cards.{grown}
use Rattle.card_session.proofs.Stopping.{days_there, asked_at}
use Rattle.card_by_hand.proofs.Staying.{late_of}
use Rattle.card_by_hand.proofs.Card.{first_over, next_over, over_repaired, keep_repaired}
use Rattle.card_by_hand.proofs.laws.a_first_keep_may_be_repaired.Goals as goal

pub returns-clause-first : goal.returns-clause-first
returns-clause-first c = λ s e x y sound knows now clear entering.
    first_over s.application sound x (days_there s x knows) e y (late_of s x e.minute knows now) entering.card clear

pub returns-clause-next : goal.returns-clause-next
returns-clause-next c = λ s e days bytes x y sound knows now newest few over entering.
    next_over s.application sound x (days_there s x knows) e y (late_of s x e.minute knows now) entering.card days bytes newest few over

pub returns-clause-repaired : goal.returns-clause-repaired
returns-clause-repaired c = λ app x y bytes sound few same over slack covered from next counted least later goes.
    over_repaired app sound x y bytes few same over slack covered from next counted least later goes

pub returns-clause-keep : goal.returns-clause-keep
returns-clause-keep c = λ s e odometer days bytes x y sound knows now newest shut few over keeping same slack covered from next counted least later first days_are mark goes.
    keep_repaired s.application sound x (days_there s x knows) e s.registration odometer (grown s.odometer odometer) y (asked_at s x e.minute now knows) keeping.card same newest shut days bytes few over slack covered from next counted least later first days_are mark goes
