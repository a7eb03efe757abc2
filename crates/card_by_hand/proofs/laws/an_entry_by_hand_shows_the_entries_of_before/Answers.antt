use Rattle.card_session.proofs.Stopping.{days_there}
use Rattle.card_by_hand.proofs.Staying.{late_of, shows_before}
use Rattle.card_by_hand.proofs.laws.an_entry_by_hand_shows_the_entries_of_before.Goals as goal

pub returns : goal.returns
returns c = λ s e x y sound knows now clear all up shown entering.
    shows_before s.application sound x (days_there s x knows) e y (late_of s x e.minute knows now) clear entering.card all up shown
