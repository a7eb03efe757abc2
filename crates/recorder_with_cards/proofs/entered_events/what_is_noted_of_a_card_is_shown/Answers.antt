use Rattle.recorder_with_cards.proofs.EnteredTold.{told-shown, told-coming}
use Rattle.recorder_with_cards.proofs.entered_events.what_is_noted_of_a_card_is_shown.Goals as goal

pub returns : goal.returns
returns c = record { done = told-shown; moment = told-coming }
