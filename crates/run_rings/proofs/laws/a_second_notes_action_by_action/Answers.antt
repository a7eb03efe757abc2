use Rattle.run_rings.proofs.Notes.{later-lines, action-notes, second-noted, cut-notes}
use Rattle.run_rings.proofs.laws.a_second_notes_action_by_action.Goals as goal

pub returns : goal.returns
returns c = record { stays = later-lines; action = action-notes; ends = second-noted; cut = cut-notes }
