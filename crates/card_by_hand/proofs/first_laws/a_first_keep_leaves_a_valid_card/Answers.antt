use Rattle.card_by_hand.proofs.Fresh.{first_valid}
use Rattle.card_by_hand.proofs.first_laws.a_first_keep_leaves_a_valid_card.Goals as goal

pub returns : goal.returns
returns c = λ s hs e odometer x y may are fits session valid keeping. first_valid s hs e odometer x y may are (record { fits = fits; session = session; valid = valid }) keeping
