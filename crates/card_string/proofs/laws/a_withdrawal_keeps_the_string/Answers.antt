use Rattle.card_string.proofs.OfCards.{card_close_holds}
use Rattle.card_string.proofs.laws.a_withdrawal_keeps_the_string.Goals as goal

pub returns : goal.returns
returns c = λ s act image h done n next x y sound fits knows session le late sits closing. card_close_holds s act image h done n next x y sound fits knows session le late sits closing
