use Rattle.run_crew.proofs.Ended.{ended-known, ended-later, ended-none, ended-same}
use Rattle.run_crew.proofs.laws.an_ended_minute_is_known.Goals as goal

pub returns : goal.returns
returns c = record {
  known = λ from to minute slots early late h. ended-known from to minute slots early late h;
  later = λ from later to slots le h. ended-later from later to slots le h;
  none = λ from slots. ended-none from slots;
  same = λ from to slots new same h. ended-same from to slots new same h;
}
