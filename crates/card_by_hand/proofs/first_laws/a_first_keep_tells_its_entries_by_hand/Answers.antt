use Rattle.card_by_hand.proofs.FirstLaws.{first_told}
use Rattle.card_by_hand.proofs.first_laws.a_first_keep_tells_its_entries_by_hand.Goals as goal

pub returns : goal.returns
returns c = λ s next hs e odometer x y mark may are low done. first_told s next hs e odometer x y mark may are low done
