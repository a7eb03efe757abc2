use Rattle.card_session.proofs.Stopping.{days_there}
use Rattle.card_by_hand.proofs.Staying.{late_of, valid_stays, some_open}
use Rattle.card_by_hand.proofs.laws.an_entry_by_hand_leaves_a_valid_card.Goals as goal

pub returns : goal.returns
returns c = λ s e x y sound fits session valid knows now clear entering.
    valid_stays s.application sound x (days_there s x knows) e y (late_of s x e.minute knows now) clear entering.card fits (some_open s.application x session) valid
