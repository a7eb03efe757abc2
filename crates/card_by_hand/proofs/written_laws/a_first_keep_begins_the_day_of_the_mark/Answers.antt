use Rattle.card_by_hand.proofs.Fresh.{first_begins, fresh_entry}
use Rattle.card_by_hand.proofs.written_laws.a_first_keep_begins_the_day_of_the_mark.Goals as goal

pub returns-clause-moments : goal.returns-clause-moments
returns-clause-moments c = λ s h hs e odometer x y fresh hands few keeping same. first_begins s h hs e odometer x y fresh hands few keeping same

pub returns-clause-entry : goal.returns-clause-entry
returns-clause-entry c = λ s h hs e odometer x y fresh hands silent all empty up shown keeping at. fresh_entry s h hs e odometer x y fresh hands silent all empty up shown keeping at
