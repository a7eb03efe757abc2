use Rattle.std.proofs.Common.{◌≡◌, ◌∙◌, true, false, sym, arith}
use Rattle.view_model.specs.Lines.{day_of_minute}
use Rattle.card_match.proofs.Seeing.{sorted_other, sorted_before, sorted_nowhere, sorted_standing, sorted_missed}
use Rattle.card_match.proofs.verdict.sort_of.Goals as goal

pub returns-then-not-case : goal.returns-then-not-case
returns-then-not-case c = λ a e is first. sorted_other a e c.args.case is (grind (arith, c.if-not-case.true))

pub returns-then-not-begins_by : goal.returns-then-not-begins_by
returns-then-not-begins_by c = λ a e is first.
    let own : c.args.case.own ≡ true = grind (arith, c.if-not-case.false) in
    let early : c.begins_by.result ≡ false = grind (arith, c.if-not-begins_by.true) in
    sorted_before a e c.args.case is own (first (day_of_minute c.args.case.entry.minute) ∙ sym c.begins_by.ensures ∙ early)

pub returns-in_default : goal.returns-in_default
returns-in_default c = λ a e is first.
    let own : c.args.case.own ≡ true = grind (arith, c.if-not-case.false) in
    let late : c.begins_by.result ≡ true = grind (arith, c.if-not-begins_by.false) in
    sorted_nowhere a e c.args.case is own (first (day_of_minute c.args.case.entry.minute) ∙ sym c.begins_by.ensures ∙ late) c.in_default.is

pub returns-then-is_as : goal.returns-then-is_as
returns-then-is_as c = λ a e is first.
    let own : c.args.case.own ≡ true = grind (arith, c.if-not-case.false) in
    let late : c.begins_by.result ≡ true = grind (arith, c.if-not-begins_by.false) in
    sorted_standing a e c.args.case is own (first (day_of_minute c.args.case.entry.minute) ∙ sym c.begins_by.ensures ∙ late) c.in-Some.shown c.in-Some.is (sym c.is_as.ensures ∙ c.if-is_as.true)

pub returns : goal.returns
returns c = λ a e is first.
    let own : c.args.case.own ≡ true = grind (arith, c.if-not-case.false) in
    let late : c.begins_by.result ≡ true = grind (arith, c.if-not-begins_by.false) in
    sorted_missed a e c.args.case is own (first (day_of_minute c.args.case.entry.minute) ∙ sym c.begins_by.ensures ∙ late) c.in-Some.shown c.in-Some.is (sym c.is_as.ensures ∙ c.if-is_as.false)
