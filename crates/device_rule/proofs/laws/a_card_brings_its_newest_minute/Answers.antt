use Rattle.device_rule.proofs.Brought.{brought-newest, brought-bound, brought-by, brought-marked}
use Rattle.device_rule.proofs.laws.a_card_brings_its_newest_minute.Goals as goal

pub returns : goal.returns
returns c = λ app x start are mark. (brought-newest app x start mark are, brought-bound app x start mark are, brought-by app x start mark are, brought-marked app x start mark)
