use Rattle.recorder_with_cards.proofs.EnteredTold.{accepted-are}
use Rattle.recorder_with_cards.proofs.entered_events.what_an_accepted_card_brings_is_what_is_judged.Goals as goal

pub returns : goal.returns
returns c = accepted-are
