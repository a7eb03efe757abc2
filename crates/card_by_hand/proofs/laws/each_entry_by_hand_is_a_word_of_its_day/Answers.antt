use Rattle.card_by_hand.proofs.Wider.{counted_wider}
use Rattle.card_by_hand.proofs.laws.each_entry_by_hand_is_a_word_of_its_day.Goals as goal

pub returns : goal.returns
returns c = λ covered counted e h hs are same apart. counted_wider covered counted e h hs are same apart
