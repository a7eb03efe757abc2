use Rattle.card_by_hand.proofs.Telling.{first_old, first_new}
use Rattle.card_by_hand.proofs.written_laws.a_first_keep_tells_whose_day_is_there.Goals as goal

pub returns-clause-before : goal.returns-clause-before
returns-clause-before c = λ s hs e odometer x y all may hands tells keeping same. first_old s hs e odometer x y all may hands tells keeping same

pub returns-clause-behind : goal.returns-clause-behind
returns-clause-behind c = λ s hs e odometer x y all mark may hands low tells keeping at. first_new s hs e odometer x y all mark may hands low tells keeping at
