use Rattle.card_string.proofs.Kept.{holds_kept}
use Rattle.card_string.proofs.laws.a_string_that_holds_is_kept.Goals as goal

pub returns : goal.returns
returns c = λ app image h brought next x sound start here holds. holds_kept app sound image x start here h brought next holds
