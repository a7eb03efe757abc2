use Rattle.std.proofs.Common.{inr, ◌∙◌, sym, ap, ◌/◌}
use Rattle.card_session.specs.Vehicles.{Vehicles, last_use_in}
use Rattle.card_session.proofs.Composing.{card_as}
use Rattle.card_session.proofs.Marks.{mark_told, session_same, events_same, number_still}
use Rattle.card_by_hand.proofs.laws.an_entry_by_hand_leaves_the_card.Goals as goal

pub returns-clause-mark : goal.returns-clause-mark
returns-clause-mark c = λ s e x y entering. mark_told s.application y ∙ ap (λ (v : Vehicles). last_use_in v / 60) entering.card.told.1 ∙ sym (mark_told s.application x)

pub returns-clause-session : goal.returns-clause-session
returns-clause-session c = λ s e x y entering. session_same s.application _ x y entering.card

pub returns-clause-events : goal.returns-clause-events
returns-clause-events c = λ s e x y entering. events_same s.application _ x y entering.card

pub returns-clause-number : goal.returns-clause-number
returns-clause-number c = λ s e x y entering. number_still s.application _ x y entering.card

pub returns-clause-ended : goal.returns-clause-ended
returns-clause-ended c = λ s next e x y done. record { card = card_as s.application _ _ x y (λ ds v is. (inr is.0, is.1)) done.card }
