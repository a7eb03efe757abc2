use Rattle.card_by_hand.proofs.FirstLaws.{first_entry}
use Rattle.card_by_hand.proofs.first_laws.a_first_keep_shows_its_entry.Goals as goal

pub returns : goal.returns
returns c = λ s hs e odometer x y may are silent all up shown keeping at. first_entry s hs e odometer x y may are silent all up shown keeping at
