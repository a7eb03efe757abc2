use Rattle.card_session.proofs.Marks.{session_same, events_same, number_still}
use Rattle.card_session.proofs.laws.a_keep_leaves_the_session.Goals as goal

pub returns-clause-session : goal.returns-clause-session
returns-clause-session c = λ s e odometer x y keeping. session_same s.application _ x y keeping.card

pub returns-clause-events : goal.returns-clause-events
returns-clause-events c = λ s e odometer x y keeping. events_same s.application _ x y keeping.card

pub returns-clause-number : goal.returns-clause-number
returns-clause-number c = λ s e odometer x y keeping. number_still s.application _ x y keeping.card
