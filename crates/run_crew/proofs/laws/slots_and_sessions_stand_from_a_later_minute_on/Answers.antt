use Rattle.run_crew.proofs.Moves.{later-stands}
use Rattle.run_crew.proofs.laws.slots_and_sessions_stand_from_a_later_minute_on.Goals as goal

pub returns : goal.returns
returns c = λ from to leaving cabin le h. later-stands from to leaving cabin le h
