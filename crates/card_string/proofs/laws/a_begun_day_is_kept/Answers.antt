use Rattle.card_string.proofs.OnBegun.{begun_shown}
use Rattle.card_string.proofs.laws.a_begun_day_is_kept.Goals as goal

pub returns : goal.returns
returns c = λ s e odometer x y slack covered from counted all sound later late least knows begun flat here keeping.
    begun_shown s e odometer x y slack covered from counted all sound later late least knows begun flat here keeping
