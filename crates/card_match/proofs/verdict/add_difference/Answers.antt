use Rattle.std.proofs.Common.{◌≡◌, ◌∙◌, true, false, List, [], ◌∷◌, ◌++◌, ap, sym, subst, arith}
use Rattle.std.specs.Prelude.{OnOk}
use Rattle.view_model.specs.declared.Viewed.{Viewed}
use Rattle.view_model.specs.Lines.{lines_of}
use Rattle.card_match.specs.declared.difference.Difference.{Difference}
use Rattle.card_match.specs.Differences.{same_difference}
use Rattle.card_match.proofs.Seeing.{none_differs, some_differs}
use Rattle.card_match.proofs.verdict.add_difference.Goals as goal

pub returns-then-not-is_missed : goal.returns-then-not-is_missed
returns-then-not-is_missed c = λ before is.
    let met : c.is_missed.result ≡ false = grind (arith, c.if-not-is_missed.true) in
    is ∙ ap (λ (l : List (Viewed Difference)). lines_of same_difference l) (sym (none_differs c.args.case c.args.sort before (sym c.is_missed.ensures ∙ met)))

pub returns : goal.returns
returns c = λ before is.
    let missed : c.is_missed.result ≡ true = grind (arith, c.if-not-is_missed.false) in
    let all = ap (λ (v : Viewed Difference). before ++ v ∷ []) c.difference.ensures ∙ sym (some_differs c.args.case c.args.sort before (sym c.is_missed.ensures ∙ missed)) in
    subst (λ (l : List (Viewed Difference)). OnOk c.add_minute.result (c.add_minute.new.lines.items ≡ lines_of same_difference l)) all (c.add_minute.ensures before is)
