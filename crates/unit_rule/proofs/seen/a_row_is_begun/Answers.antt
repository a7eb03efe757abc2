use Rattle.unit_rule.proofs.Beginning.{first_begun, second_begun}
use Rattle.unit_rule.proofs.seen.a_row_is_begun.Goals as goal

pub returns : goal.returns
returns c = record {
  first = λ a b session x y apart known is. first_begun a b session x y apart known is;
  second = λ a b session x y apart known is. second_begun a b session x y apart known is;
}
