use Rattle.hand_model.proofs.Words.{by_hand_is, minute_below, tells_it}
use Rattle.hand_model.proofs.laws.a_word_by_hand_tells_its_entry.Goals as goal

pub returns-clause-known : goal.returns-clause-known
returns-clause-known c = by_hand_is

pub returns-clause-minute : goal.returns-clause-minute
returns-clause-minute c = minute_below

pub returns-clause-entry : goal.returns-clause-entry
returns-clause-entry c = tells_it
