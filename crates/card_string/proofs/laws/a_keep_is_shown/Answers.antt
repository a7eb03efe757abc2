use Rattle.card_string.proofs.Moments.{keep_shown}
use Rattle.card_string.proofs.laws.a_keep_is_shown.Goals as goal

pub returns : goal.returns
returns c = λ s e odometer x y slack covered from counted all sound later late least knows g clear keeping.
    keep_shown s e odometer x y slack covered from counted all sound later late least knows g keeping clear
