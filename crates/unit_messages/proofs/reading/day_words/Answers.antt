use Rattle.std.proofs.Common.{◌∙◌, sym, arith}
use Rattle.unit_model.specs.Image.{words_at}
use Rattle.unit_messages.proofs.Fronts.{day_ends, day_words_laid}
use Rattle.unit_messages.proofs.reading.day_words.Goals as goal

pub words_of-requires-clause-ends : goal.words_of-requires-clause-ends
words_of-requires-clause-ends c = day_ends c.requires.0 c.args.b.now c.requires.1

pub words_of-requires-clause-some : goal.words_of-requires-clause-some
words_of-requires-clause-some c = let laid = day_words_laid c.requires.0 c.args.b.now c.requires.1 in omega (arith, laid.inside)

pub returns-clause-words : goal.returns-clause-words
returns-clause-words c = λ m begins.
    let laid = day_words_laid m c.args.b.now begins in
    (c.words_of.ensures.count ∙ laid.count, sym ((λ t. words_at c.args.b.now (c.words_of.ensures.place t) (c.words_of.ensures.count t)) ∙ laid.words))
