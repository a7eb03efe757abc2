use Rattle.tach_media.proofs.Runs.{ok_gives}
use Rattle.unit_notes.specs.event_model.declared.kinds.TheConstants.{TIME_OVERLAP}
use Rattle.run_insertion.specs.Noted.{IsOnUnit, IsComing, event_of}
use Rattle.run_insertion.proofs.Notes.{one-note}
use Rattle.run_insertion.proofs.entering.defer.Goals as goal

pub returns-clause-notes : goal.returns-clause-notes
returns-clause-notes g c =
    one-note IsOnUnit IsComing (event_of TIME_OVERLAP c.args.entering.at.second c.args.stored c.args.keeper.now.cabin) (λ well. ok_gives c.note_overlap.result c.note_overlap.ensures.note.noted well) c.note_overlap.ensures.note.moments

pub returns-clause-stands : goal.returns-clause-stands
returns-clause-stands g c = c.note_overlap.ensures.stands
