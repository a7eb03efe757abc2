use Rattle.hand_model.proofs.Written.{rises_then, rises_by, entries_then, hands_then}
use Rattle.card_by_hand.proofs.written_laws.a_keep_is_written_behind.Goals as goal

pub returns-clause-rises : goal.returns-clause-rises
returns-clause-rises c = λ after ws s e hs rises le up are. rises_then after s.minute ws _ le up rises (rises_by s.minute hs e are.lie are.day)

pub returns-clause-entries : goal.returns-clause-entries
returns-clause-entries c = λ ws hs e. entries_then ws hs e

pub returns-clause-hands : goal.returns-clause-hands
returns-clause-hands c = λ ws hs e. hands_then ws hs e
