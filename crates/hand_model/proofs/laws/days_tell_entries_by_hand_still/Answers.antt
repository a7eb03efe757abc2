use Rattle.hand_model.proofs.Cuts.{tells_trimmed, tells_by}
use Rattle.hand_model.proofs.laws.days_tell_entries_by_hand_still.Goals as goal

pub returns-clause-cut : goal.returns-clause-cut
returns-clause-cut c = λ mark all days are up tells. tells_trimmed mark all days are up tells

pub returns-clause-newest : goal.returns-clause-newest
returns-clause-newest c = λ mark other all days are low lower tells. tells_by mark other all days are low lower tells
