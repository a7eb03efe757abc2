use Rattle.hand_model.proofs.Words.{no_entry}
use Rattle.hand_model.proofs.laws.a_word_by_hand_is_no_entry.Goals as goal

pub returns : goal.returns
returns c = no_entry
