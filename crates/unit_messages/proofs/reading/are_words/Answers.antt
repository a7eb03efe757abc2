use Rattle.std.proofs.Common.{◌≡◌, ℕ, arith, sym, ◌∙◌, ap}
use Rattle.unit_model.specs.Image.{words_at}
use Rattle.unit_messages.specs.Parts.{are_words}
use Rattle.unit_messages.proofs.Days.{words_more_pass, words_stop}
use Rattle.unit_messages.proofs.reading.are_words.Goals as goal

pub loop-nth-preserved : goal.loop-nth-preserved
loop-nth-preserved c = words_more_pass c.args.b.now c.args.place c.loop-nth.nth c.two_in-word.result c.two_in-word.ensures c.loop-nth.invariant (omega arith)

pub returns : goal.returns
returns c =
    let end : c.loop-nth.nth ≡ c.args.count = omega (arith, c.loop-nth-test.false, c.loop-nth.auto.nth-end) in
    sym (ap (λ (n : ℕ). are_words (words_at c.args.b.now c.args.place n)) (sym end) ∙ c.loop-nth.invariant)

pub returns-then-word-ge1440 : goal.returns-then-word-ge1440
returns-then-word-ge1440 c = sym (words_stop c.args.b.now c.args.place c.loop-nth.nth c.args.count c.two_in-word.result c.two_in-word.ensures c.loop-nth-test.true (omega arith))
