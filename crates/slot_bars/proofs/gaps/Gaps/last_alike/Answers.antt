use Rattle.std.proofs.Common.{◌≡◌, ◌∙◌, List, length, get_or, ap, subst, arith}
use Rattle.std.proofs.lemmas.List.{get_or_default}
use Rattle.view_model.specs.declared.marks.Gap.{Gap}
use Rattle.slot_bars.proofs.Ordered.{alike_inside, alike_outside, no_gap}
use Rattle.slot_bars.proofs.gaps.Gaps.last_alike.Goals as goal

pub returns-then-minute-end-clause-alike : goal.returns-then-minute-end-clause-alike
returns-then-minute-end-clause-alike c = λ m le on.
    alike_inside c.args.self.now c.begun-count.result c.args.minute c.end_before-end.result m c.begun-count.ensures.most c.begun-count.ensures.front c.end_before-end.ensures.last c.end_before-end.ensures.none le (omega (arith, on, c.if-minute-end.true))

pub returns-then-count-len-clause-alike : goal.returns-then-count-len-clause-alike
returns-then-count-len-clause-alike c = λ m le on.
    let n = c.begun-count.result in
    let next : c.index.result.now ≡ get_or c.args.self.now c.begun-count.result c.index.result.now = c.index.ensures ∙ ap (λ (l : List Gap). get_or l c.begun-count.result c.index.result.now) c.self.view_is in
    alike_outside c.args.self.now c.begun-count.ensures.order n c.args.minute c.end_before-end.result m c.begun-count.ensures.most c.begun-count.ensures.behind c.end_before-end.ensures.last (omega (arith, c.if-minute-end.false)) le
    (λ inside.
    let first = c.begun-count.ensures.behind n c.index.result.now (omega arith) inside in
    let same = get_or_default c.args.self.now n no_gap c.index.result.now inside in
    omega (arith, on, first, ap (λ (g : Gap). g.first) next, ap (λ (g : Gap). g.first) same))

pub returns-clause-alike : goal.returns-clause-alike
returns-clause-alike c = λ m le on.
    alike_outside c.args.self.now c.begun-count.ensures.order c.begun-count.result c.args.minute c.end_before-end.result m c.begun-count.ensures.most c.begun-count.ensures.behind c.end_before-end.ensures.last (omega (arith, c.if-minute-end.false)) le
    (λ inside. absurd (omega (arith, inside, c.if-count-len.false, ap (λ (l : List Gap). length l) c.self.view_is)))
