use Rattle.std.proofs.Common.{List, sym, subst}
use Rattle.file_view.specs.declared.places.MessageAt.{MessageAt}
use Rattle.file_view.specs.Places.{ArePlaced}
use Rattle.unit_marks.proofs.entries.entry_marks.Goals as goal

pub marks_in-requires : goal.marks_in-requires
marks_in-requires c =
    let placed = c.in_ok-all.ensures.placed in
    (placed.0, subst (λ (l : List MessageAt). ArePlaced c.args.b.now l placed.0) (sym c.as_slice.ensures.value) placed.2)

pub returns-clause-marks : goal.returns-clause-marks
returns-clause-marks c =
    let placed = c.in_ok-all.ensures.placed in
    let are = subst (λ (l : List MessageAt). ArePlaced c.args.b.now l placed.0) (sym c.as_slice.ensures.value) placed.2 in
    record { messages = placed.0; file = placed.1; marks_are = c.in_ok-marks.ensures placed.0 are }
