use Rattle.std.proofs.Common.{true}
use Rattle.run_unit_course.proofs.Steps.{breaks_off}
use Rattle.run_unit_course.proofs.laws.a_turn_breaks_off.Goals as goal

pub returns : goal.returns
returns c = λ rule start from first done p f span is none n speed actions new each decides front d rest are. breaks_off rule start from first done p n speed actions each new f span is none decides front d rest are true
