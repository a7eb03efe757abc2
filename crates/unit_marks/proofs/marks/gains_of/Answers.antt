use Rattle.std.proofs.Common.{◌∙◌, List, ◌++◌, length, get_or, drop, ap, sym, arith, append_assoc, append-nil, length-drop}
use Rattle.view_model.specs.declared.marks.Distance.{Distance}
use Rattle.unit_marks.specs.declared.marks.Midnight.{Midnight}
use Rattle.unit_marks.specs.Marks.{gained, gains_of}
use Rattle.unit_marks.proofs.Empty.{no_midnight}
use Rattle.unit_marks.proofs.Telling.{first_gained, none_gained}
use Rattle.unit_marks.proofs.marks.gains_of.Goals as goal

pub midnights-preserved : goal.midnights-preserved
midnights-preserved c =
    let rest = c.midnights.rest.now in
    let here : List Distance = gained (get_or c.midnights.rest.now 0 no_midnight) (get_or c.midnights.rest.now 1 no_midnight) in
    ap (λ (l : List Distance). l ++ gains_of c.split_at.result.1.now) c.in_ok-add_gained.ensures
    ∙ ap (λ (l : List Midnight). (c.midnights.distances.items ++ here) ++ gains_of l) c.split_at.ensures.back
    ∙ append_assoc c.midnights.distances.items here (gains_of (drop 1 rest))
    ∙ ap (λ (l : List Distance). c.midnights.distances.items ++ l) (sym (first_gained rest no_midnight (omega (arith, c.midnights-test.true))))
    ∙ c.midnights.invariant

pub midnights-smaller : goal.midnights-smaller
midnights-smaller c =
    omega (arith, c.midnights-test.true, ap (λ (l : List Midnight). length l) c.split_at.ensures.back, length-drop 1 c.midnights.rest.now)

pub returns : goal.returns
returns c =
    sym (append-nil c.midnights.distances.items)
    ∙ ap (λ (l : List Distance). c.midnights.distances.items ++ l) (sym (none_gained c.midnights.rest.now (omega (arith, c.midnights-test.false))))
    ∙ c.midnights.invariant
