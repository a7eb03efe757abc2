use Rattle.card_session.proofs.Round.{list_told, newest_last}
use Rattle.card_session.proofs.laws.vehicles_are_the_list_of_their_ring.Goals as goal

pub returns-clause-list : goal.returns-clause-list
returns-clause-list c = λ app x points. list_told app x points

pub returns-clause-newest : goal.returns-clause-newest
returns-clause-newest c = λ app x points. newest_last app x points
