use Rattle.card_by_hand.proofs.FirstLaws.{first_repaired}
use Rattle.card_by_hand.proofs.first_laws.a_whole_first_keep_may_be_repaired.Goals as goal

pub returns : goal.returns
returns c = λ s h hs e odometer x y may are few keeping same slack covered from next counted least later goes. first_repaired s h hs e odometer x y may are few keeping same slack covered from next counted least later goes
