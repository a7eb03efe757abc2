use Rattle.card_by_hand.proofs.FirstLaws.{first_newest, first_stored}
use Rattle.card_by_hand.proofs.first_laws.a_first_keep_leaves_the_newest_minute.Goals as goal

pub returns-clause-newest : goal.returns-clause-newest
returns-clause-newest c = λ s hs e odometer x y may are shut keeping same. first_newest s hs e odometer x y may are shut keeping same

pub returns-clause-stored : goal.returns-clause-stored
returns-clause-stored c = λ s hs e odometer x y may are session keeping same. first_stored s hs e odometer x y may are session keeping same
