use Rattle.card_by_hand.proofs.FirstLaws.{first_session, first_events, first_number, first_mark}
use Rattle.card_by_hand.proofs.first_laws.a_first_keep_leaves_the_session.Goals as goal

pub returns-clause-session : goal.returns-clause-session
returns-clause-session c = λ s hs e odometer x y keeping. first_session s hs e odometer x y keeping

pub returns-clause-events : goal.returns-clause-events
returns-clause-events c = λ s hs e odometer x y keeping. first_events s hs e odometer x y keeping

pub returns-clause-number : goal.returns-clause-number
returns-clause-number c = λ s hs e odometer x y keeping. first_number s hs e odometer x y keeping

pub returns-clause-mark : goal.returns-clause-mark
returns-clause-mark c = λ s hs e odometer x y keeping. first_mark s hs e odometer x y keeping
