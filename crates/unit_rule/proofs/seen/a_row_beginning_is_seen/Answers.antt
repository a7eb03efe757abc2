use Rattle.unit_rule.proofs.Beginning.{first_beginning, second_beginning}
use Rattle.unit_rule.proofs.seen.a_row_beginning_is_seen.Goals as goal

pub returns : goal.returns
returns c = record {
  first = λ a b session x y apart known is. first_beginning a b session x y apart known is;
  second = λ a b session x y apart known is. second_beginning a b session x y apart known is;
}
