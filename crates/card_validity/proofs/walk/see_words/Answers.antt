use Rattle.std.proofs.Common.{◌≡◌, ◌<◌, ◌+◌, ℕ, List, ◌++◌, length, get_or, take, sym, subst, arith, rules}
use Rattle.std.proofs.lemmas.List.{append-nil, take_all}
use Rattle.card_image.specs.card_model.Image.{oldest_pointer}
use Rattle.card_image.specs.Judging.{PlacedWord, words_placed}
use Rattle.card_validity.specs.Words.{IsBehind}
use Rattle.card_validity.proofs.Behinds.{words_more}
use Rattle.card_validity.proofs.walk.see_words.Goals as goal

pub loop-index-init : goal.loop-index-init
loop-index-init c = λ older d met ws is. subst (λ (l : List PlacedWord). IsBehind c.args.mark l c.args.behind) (sym (append-nil ws)) is

pub loop-index-preserved : goal.loop-index-preserved
loop-index-preserved c = λ older d met ws is.
    let i = c.loop-index.index in
    let below : i < length d.words = omega (arith, met.words, c.loop-index-test.true) in
    let word : c.word-change.result ≡ get_or d.words i 0 = c.word-change.ensures d met.here below in
    words_more c.args.mark c.args.days.now.shape.size (oldest_pointer c.args.days.now.shape c.args.image.now) (c.args.met.now.so_far + 12) d.date d.words i c.word-change.result c.file_place-place.result ws c.loop-index.seen c.see-seen.result below word
    (search rules) (search rules) (c.loop-index.invariant older d met ws is)

pub returns : goal.returns
returns c = λ older d met ws is.
    let all : take c.loop-index.index d.words ≡ d.words = take_all c.loop-index.index d.words (omega (arith, met.words, c.loop-index-test.false)) in
    subst (λ (l : List ℕ). IsBehind c.args.mark (ws ++ words_placed c.args.days.now.shape.size (oldest_pointer c.args.days.now.shape c.args.image.now) (c.args.met.now.so_far + 12) d.date l) c.loop-index.seen) all (c.loop-index.invariant older d met ws is)
