use Rattle.std.proofs.Common.{inl, IfSome, List, ℕ, subst}
use Rattle.tach_media.specs.Medium.{LeavesOnly}
use Rattle.tach_media.proofs.Runs.{weaken, on_ok, ok_gives, settled_then}
use Rattle.unit_notes.specs.Noting.{IsNotingOver, IsOverNoted}
use Rattle.unit_notes.proofs.Fronts.{front_begins}
use Rattle.unit_notes.proofs.Counting.{over_begin, over_number, over_noted}
use Rattle.unit_model.proofs.Sized.{unit_sized}
use Rattle.unit_notes.specs.Entries.{over_bytes}
use Rattle.unit_notes.proofs.Journals.{over_keeps, over_decodes}
use Rattle.unit_notes.proofs.memory.UnitMemoryUnitNotes.note_over.Goals as goal

pub note-requires-clause-begin : goal.note-requires-clause-begin
note-requires-clause-begin g c = front_begins 7 c.write_over.new.out c.args.over.now.begin c.write_over.ensures.begin c.requires.begin

pub returns-in_err-note-clause-moments : goal.returns-in_err-note-clause-moments
returns-in_err-note-clause-moments g c =
    subst (λ (l : List ℕ). LeavesOnly (g.M.Medium.state c.args.unit.now) (g.M.Medium.state c.note.new.unit) (IsNotingOver c.args.over.now.begin l)) c.write_over.ensures.bytes
    (weaken c.note.ensures.moments (λ x d was entry. inl entry))

pub returns-in_err-note_first-clause-moments : goal.returns-in_err-note_first-clause-moments
returns-in_err-note_first-clause-moments g c =
    subst (λ (l : List ℕ). LeavesOnly (g.M.Medium.state c.args.unit.now) (g.M.Medium.state c.note_first.new.unit) (IsNotingOver c.args.over.now.begin l)) c.write_over.ensures.bytes
    (over_begin c.args.over.now.begin c.write_over.new.out c.note.ensures.moments c.in_ok-note.ensures.noted c.note_first.ensures.moments)

pub returns-clause-moments : goal.returns-clause-moments
returns-clause-moments g c =
    subst (λ (l : List ℕ). LeavesOnly (g.M.Medium.state c.args.unit.now) (g.M.Medium.state c.count_one.new.unit) (IsNotingOver c.args.over.now.begin l)) c.write_over.ensures.bytes
    (over_number c.args.over.now.begin c.write_over.new.out c.note.ensures.moments c.in_ok-note.ensures.noted c.note_first.ensures.moments c.in_ok-note_first.ensures.written c.count_one.ensures.moments)

pub returns-clause-noted : goal.returns-clause-noted
returns-clause-noted g c =
    on_ok c.count_one.result (λ fine.
    subst (λ (l : List ℕ). IfSome (g.M.Medium.state c.args.unit.now).image (λ x. IfSome (g.M.Medium.state c.count_one.new.unit).image (IsOverNoted c.args.over.now.begin l x))) c.write_over.ensures.bytes
    (over_noted c.args.over.now.begin c.write_over.new.out c.note.ensures.moments c.in_ok-note.ensures.noted c.note_first.ensures.moments c.in_ok-note_first.ensures.written c.count_one.ensures.moments (ok_gives c.count_one.result c.count_one.ensures.written fine)))

pub returns-clause-settled : goal.returns-clause-settled
returns-clause-settled g c =
    on_ok c.count_one.result (λ fine.
    settled_then (g.M.Medium.state c.args.unit.now) (g.M.Medium.state c.note_first.new.unit) (g.M.Medium.state c.count_one.new.unit) c.count_one.ensures.moments.later
    (settled_then (g.M.Medium.state c.args.unit.now) (g.M.Medium.state c.note.new.unit) (g.M.Medium.state c.note_first.new.unit) c.note_first.ensures.moments.later c.in_ok-note.ensures.settled c.in_ok-note_first.ensures.settled)
    (ok_gives c.count_one.result c.count_one.ensures.settled fine))

pub returns-in_err-note-clause-journal : goal.returns-in_err-note-clause-journal
returns-in_err-note-clause-journal g c =
    weaken (returns-in_err-note-clause-moments g c) (λ x d was moment.
    let long = unit_sized (g.met.M.Medium.coherent c.args.unit.now) c.requires.unit x was in
    record {
      keeps = over_keeps c.args.over.now.begin (over_bytes c.args.over.now c.args.driver.now) x long d moment;
      decodes = over_decodes c.args.over.now.begin (over_bytes c.args.over.now c.args.driver.now) x d long moment;
    })

pub returns-in_err-note_first-clause-journal : goal.returns-in_err-note_first-clause-journal
returns-in_err-note_first-clause-journal g c =
    weaken (returns-in_err-note_first-clause-moments g c) (λ x d was moment.
    let long = unit_sized (g.met.M.Medium.coherent c.args.unit.now) c.requires.unit x was in
    record {
      keeps = over_keeps c.args.over.now.begin (over_bytes c.args.over.now c.args.driver.now) x long d moment;
      decodes = over_decodes c.args.over.now.begin (over_bytes c.args.over.now c.args.driver.now) x d long moment;
    })

pub returns-clause-journal : goal.returns-clause-journal
returns-clause-journal g c =
    weaken (returns-clause-moments g c) (λ x d was moment.
    let long = unit_sized (g.met.M.Medium.coherent c.args.unit.now) c.requires.unit x was in
    record {
      keeps = over_keeps c.args.over.now.begin (over_bytes c.args.over.now c.args.driver.now) x long d moment;
      decodes = over_decodes c.args.over.now.begin (over_bytes c.args.over.now c.args.driver.now) x d long moment;
    })
