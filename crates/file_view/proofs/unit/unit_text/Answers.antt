use Rattle.std.proofs.Common.{◌≡◌, ◌∙◌, List, map, ap, sym, subst}
use Rattle.unit_model.specs.Days.{UnitMinute}
use Rattle.view_model.specs.declared.UnitShown.{UnitShown}
use Rattle.view_model.specs.declared.Line.{Line}
use Rattle.view_model.specs.Lines.{lines_of, same_unit}
use Rattle.view_text.specs.Text.{IsUnitView, IsTextOf, unit_words}
use Rattle.file_view.specs.Histories.{minutes_on, minute_shown}
use Rattle.file_view.proofs.Lines.{all_low, told_shown}
use Rattle.file_view.proofs.unit.unit_text.Goals as goal

pub lines_text-requires : goal.lines_text-requires
lines_text-requires c = rw c.as_slice.ensures.value (all_low c.h.inside.lines.items c.h.invariant.days)

pub returns : goal.returns
unfolding IsUnitView
returns c =
    let shown : lines_of same_unit (map minute_shown c.args.h.now) ≡ c.as_slice.result.now =
    ap (λ (l : List UnitMinute). lines_of same_unit (map minute_shown l)) (sym c.h.view_is)
    ∙ ap (lines_of same_unit) (told_shown (minutes_on c.h.inside.lines.items)) ∙ sym c.h.invariant.exact ∙ sym c.as_slice.ensures.value in
    subst (λ (l : List (Line UnitShown)). IsTextOf unit_words l c.in_ok-text.text.items) (sym shown) c.in_ok-text.ensures
