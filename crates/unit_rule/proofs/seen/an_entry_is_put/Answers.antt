use Rattle.unit_rule.proofs.Putting.{first_put, second_put}
use Rattle.unit_rule.proofs.seen.an_entry_is_put.Goals as goal

pub returns : goal.returns
returns c = record {
  first = λ a b e x y apart known late all has is. first_put a b e x y apart known late all has is;
  second = λ a b e x y apart known late all has is. second_put a b e x y apart known late all has is;
}
