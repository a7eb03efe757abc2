use Rattle.std.proofs.Common.{◌≡◌, ◌∙◌, ◌<◌, ◌≤◌, List, [], ◌∷◌, ◌++◌, length, take, get_or, sym, ap, arith}
use Rattle.std.proofs.lemmas.List.{take_all, take_more}
use Rattle.minute_rules.specs.declared.counted.Counted.{Counted}
use Rattle.minute_rules.specs.Counted.{no_second}
use Rattle.minute_rules.proofs.counted.differ.Goals as goal

pub loop-i-preserved : goal.loop-i-preserved
loop-i-preserved c =
    let i = c.loop-i.i in
    let ones = c.args.ones.now in
    let others = c.args.others.now in
    let lt : i < length ones = omega arith in
    let lt' : i < length others = omega (arith, c.requires) in
    let same : get_or ones i no_second ≡ get_or others i no_second = c.if-counts_differ.ensures in
    take_more ones i no_second lt
    ∙ ap (λ (x : Counted). take i ones ++ x ∷ []) same
    ∙ ap (λ (xs : List Counted). xs ++ get_or others i no_second ∷ []) c.loop-i.invariant
    ∙ sym (take_more others i no_second lt')

pub returns : goal.returns
returns c =
    let end : length c.args.ones.now ≤ c.loop-i.i = omega arith in
    let end' : length c.args.others.now ≤ c.loop-i.i = omega (arith, c.requires) in
    sym (take_all c.loop-i.i c.args.ones.now end) ∙ c.loop-i.invariant ∙ take_all c.loop-i.i c.args.others.now end'
