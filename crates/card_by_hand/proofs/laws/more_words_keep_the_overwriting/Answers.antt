use Rattle.hand_model.specs.Counted.{and_by_hand}
use Rattle.card_by_hand.proofs.Wider.{wider_hands, retains_wider}
use Rattle.card_by_hand.proofs.laws.more_words_keep_the_overwriting.Goals as goal

pub returns : goal.returns
returns c = λ length slack more marked expected by_hand all days shown le r.
    retains_wider length slack more marked expected (and_by_hand by_hand expected) all days shown le (wider_hands by_hand expected) r
