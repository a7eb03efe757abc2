use Rattle.card_session.proofs.Stopping.{days_there}
use Rattle.card_by_hand.proofs.Staying.{late_of, some_open}
use Rattle.card_by_hand.proofs.Newest.{shut_stays, newest_stays, stored_stays}
use Rattle.card_by_hand.proofs.laws.an_entry_by_hand_leaves_the_newest_minute.Goals as goal

pub returns-clause-shut : goal.returns-clause-shut
returns-clause-shut c = λ s e x y sound knows now clear entering shut.
    shut_stays s.application sound x (days_there s x knows) e y (late_of s x e.minute knows now) clear entering.card shut

pub returns-clause-newest : goal.returns-clause-newest
returns-clause-newest c = λ s e x y sound knows now clear entering shut.
    newest_stays s.application sound x (days_there s x knows) e y (late_of s x e.minute knows now) clear entering.card shut

pub returns-clause-stored : goal.returns-clause-stored
returns-clause-stored c = λ s e x y sound knows now clear entering session.
    stored_stays s.application sound x (days_there s x knows) e y (late_of s x e.minute knows now) clear entering.card (some_open s.application x session)
