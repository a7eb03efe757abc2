use Rattle.std.proofs.Common.{◌+◌}
use Rattle.run_crew.proofs.Sessions.{begun_holds}
use Rattle.run_crew.proofs.Moves.{kept-stands}
use Rattle.run_crew.proofs.laws.a_session_that_kept_its_minute_goes_on.Goals as goal

pub returns : goal.returns
returns c = λ from minute leaving card old new cabin le is sizes most held h. kept-stands from minute card old new cabin leaving le is sizes most (begun_holds (minute + 1) minute old.held new held) h
