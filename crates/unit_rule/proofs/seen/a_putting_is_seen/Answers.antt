use Rattle.unit_rule.proofs.Putting.{first_putting, second_putting}
use Rattle.unit_rule.proofs.seen.a_putting_is_seen.Goals as goal

pub returns : goal.returns
returns c = record {
  first = λ a b e x y apart known late all is. first_putting a b e x y apart known late all is;
  second = λ a b e x y apart known late all is. second_putting a b e x y apart known late all is;
}
