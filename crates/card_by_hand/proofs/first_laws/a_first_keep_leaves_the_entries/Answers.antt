use Rattle.card_by_hand.proofs.FirstLaws.{first_entries}
use Rattle.card_by_hand.proofs.first_laws.a_first_keep_leaves_the_entries.Goals as goal

pub returns : goal.returns
returns c = λ s h hs e odometer x y may are shut slack covered from counted least later goes keeping at. first_entries s h hs e odometer x y may are shut slack covered from counted least later goes keeping at
