use Rattle.tach_media.proofs.Runs.{ok_gives}
use Rattle.unit_notes.specs.event_model.declared.kinds.TheConstants.{CARD_NOT_VALID}
use Rattle.run_insertion.specs.Noted.{IsOnUnit, IsComing, event_of}
use Rattle.run_insertion.proofs.Notes.{one-note}
use Rattle.run_insertion.proofs.entering.refuse.Goals as goal

pub returns-clause-notes : goal.returns-clause-notes
returns-clause-notes g c =
    one-note IsOnUnit IsComing (event_of CARD_NOT_VALID c.args.entering.at.second c.args.entering.at.second c.args.keeper.now.cabin) (λ well. ok_gives c.note_not_valid.result c.note_not_valid.ensures.note.noted well) c.note_not_valid.ensures.note.moments

pub returns-clause-stands : goal.returns-clause-stands
returns-clause-stands g c = c.note_not_valid.ensures.stands
