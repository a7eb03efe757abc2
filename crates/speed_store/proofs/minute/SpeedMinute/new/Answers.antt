use Rattle.std.proofs.Common.{[], refl, arith}
use Rattle.speed_store.proofs.minute.SpeedMinute.new.Goals as goal

pub returns-clause-stands : goal.returns-clause-stands
returns-clause-stands c = λ next. record { over = []; going = []; minutes_are = refl; earlier = tt; here = tt; row = tt; few = omega arith; kept_are = refl }
