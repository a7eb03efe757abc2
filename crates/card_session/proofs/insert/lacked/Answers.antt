use Rattle.std.proofs.Common.{◌≡◌, ◌∙◌, ◌-◌, ℕ, List, length, take, drop, length-drop, sym, ap, arith}
use Rattle.std.proofs.lemmas.List.{drop_all, take_all}
use Rattle.activity_codec.specs.declared.entries.Entry.{Entry}
use Rattle.card_session.specs.Inserting.{lacked}
use Rattle.card_session.proofs.Stored.{lacked_from, lacked_next}
use Rattle.card_session.proofs.insert.lacked.Goals as goal

pub loop-index-preserved : goal.loop-index-preserved
loop-index-preserved c = c.loop-index.invariant ∙ lacked_next c.args.mark c.args.owed.now c.loop-index.index c.loop-index-test.true c.if-owed-index.false

-- what is behind an index, whole
whole : (es : List Entry) (i : ℕ) → take (length es - i) (drop i es) ≡ drop i es
whole es i = take_all (length es - i) (drop i es) (omega (arith, length-drop i es))

pub returns-then-owed-index : goal.returns-then-owed-index
returns-then-owed-index c =
    whole c.args.owed.now c.loop-index.index
    ∙ sym (c.loop-index.invariant ∙ lacked_from c.args.mark c.args.owed.now c.loop-index.index c.loop-index-test.true c.if-owed-index.true)

pub returns : goal.returns
returns c =
    let es = c.args.owed.now in
    let i = c.loop-index.index in
    whole es (length es) ∙ drop_all (length es) es (omega arith) ∙ sym (c.loop-index.invariant ∙ ap (lacked c.args.mark) (drop_all i es (omega (arith, c.loop-index-test.false))))
