use Rattle.run_model.specs.Span.{picks_of}
use Rattle.run_unit_course.proofs.Steps.{turned, rules_see_the_turn}
use Rattle.run_unit_course.proofs.Seconds.{turned_seconds}
use Rattle.run_unit_course.proofs.laws.a_turn_goes_on.Goals as goal

pub returns : goal.returns
returns c = record {
  told = turned_seconds;
  seen = λ rule start from first done p f span is n speed actions. rules_see_the_turn rule start from first done p f span is n speed (picks_of actions);
  followed = λ rule start from first done p f span is none n speed actions new each decides. turned rule start from first done p n speed actions each new f span is none decides;
}
