use Rattle.std.proofs.Common.{◌≡◌, rules, length, ◌∙◌}
use Rattle.unit_notes.proofs.Fronts.{fault_front, front_begins}
use Rattle.tach_media.proofs.Runs.{weaken}
use Rattle.unit_notes.proofs.Journals.{table_keeps, table_decodes}
use Rattle.unit_notes.proofs.memory.UnitMemoryUnitNotes.note_fault.Goals as goal

pub note-requires-clause-front : goal.note-requires-clause-front
note-requires-clause-front g c =
    let len : length c.write_fault.new.out ≡ 82 = search rules in
    len ∙ fault_front c.args.event.now.kind c.requires.kind

pub note-requires-clause-begin : goal.note-requires-clause-begin
note-requires-clause-begin g c = front_begins c.args.event.now.kind c.write_fault.new.out c.args.event.now.begin.0 c.write_fault.ensures.begin c.requires.begin

pub returns-clause-journal : goal.returns-clause-journal
returns-clause-journal g c =
    weaken c.note.ensures.moments (λ x d was moment.
    record { keeps = table_keeps c.args.event.now.kind x d moment.outside; decodes = table_decodes c.args.event.now.kind x d moment.outside })
