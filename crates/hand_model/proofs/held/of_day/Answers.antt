use Rattle.std.proofs.Common.{◌≡◌, ◌∙◌, ◌-◌, ℕ, List, length, take, drop, length-drop, sym, ap, arith}
use Rattle.std.proofs.lemmas.List.{drop_all, take_all}
use Rattle.activity_codec.specs.declared.entries.Manual.{Manual}
use Rattle.hand_model.specs.Holding.{of_day}
use Rattle.hand_model.proofs.OfDay.{day_from, day_next}
use Rattle.hand_model.proofs.held.of_day.Goals as goal

pub loop-index-preserved : goal.loop-index-preserved
loop-index-preserved c = c.loop-index.invariant ∙ day_next c.args.day c.args.entries.now c.loop-index.index c.loop-index-test.true c.if-entries-index.false

-- what is behind an index, whole
whole : (es : List Manual) (i : ℕ) → take (length es - i) (drop i es) ≡ drop i es
whole es i = take_all (length es - i) (drop i es) (omega (arith, length-drop i es))

pub returns-then-entries-index : goal.returns-then-entries-index
returns-then-entries-index c =
    whole c.args.entries.now c.loop-index.index
    ∙ sym (c.loop-index.invariant ∙ day_from c.args.day c.args.entries.now c.loop-index.index c.loop-index-test.true c.if-entries-index.true)

pub returns : goal.returns
returns c =
    let es = c.args.entries.now in
    let i = c.loop-index.index in
    whole es (length es) ∙ drop_all (length es) es (omega arith) ∙ sym (c.loop-index.invariant ∙ ap (of_day c.args.day) (drop_all i es (omega (arith, c.loop-index-test.false))))
