use Rattle.recorder_with_cards.proofs.EnteredTold.{events-told}
use Rattle.recorder_with_cards.proofs.entered_events.what_is_noted_of_a_card_are_its_events.Goals as goal

pub returns : goal.returns
returns c = λ number second low e at ending noted cabin before accepted left small named. events-told number second low e at ending noted cabin before accepted left small named
