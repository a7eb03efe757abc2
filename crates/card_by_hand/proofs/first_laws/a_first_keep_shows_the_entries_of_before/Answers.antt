use Rattle.card_by_hand.proofs.FirstLaws.{first_shows}
use Rattle.card_by_hand.proofs.first_laws.a_first_keep_shows_the_entries_of_before.Goals as goal

pub returns : goal.returns
returns c = λ s hs e odometer x y may are all up shown keeping same. first_shows s hs e odometer x y may are all up shown keeping same
