use Rattle.std.proofs.Common.{◌∙◌, List, ap, sym}
use Rattle.std.proofs.lemmas.List.{take_all}
use Rattle.view_model.specs.declared.UnitShown.{UnitShown}
use Rattle.view_model.specs.declared.Line.{Line}
use Rattle.file_calls.specs.Asking.{shown_at}
use Rattle.file_calls.proofs.At.{told, found_at, passed_at}
use Rattle.file_calls.proofs.unit.shown_on.Goals as goal

pub loop-line-preserved : goal.loop-line-preserved
loop-line-preserved c = passed_at c.args.lines.now c.loop-line.line-index c.args.minute c.loop-line-test.true c.loop-line.invariant (sym c.has.ensures ∙ c.if-has.false)

pub returns-then-has : goal.returns-then-has
returns-then-has c = sym (found_at c.args.lines.now c.loop-line.line-index c.args.minute c.loop-line-test.true c.loop-line.invariant (sym c.has.ensures ∙ c.if-has.true))

pub returns : goal.returns
returns c = sym (ap (λ (ls : List (Line UnitShown)). shown_at (told ls) c.args.minute) (sym (take_all c.loop-line.line-index c.args.lines.now c.loop-line-test.false)) ∙ c.loop-line.invariant)
