use Rattle.std.proofs.Common.{◌≡◌, ◌∙◌, ℕ, ◌-◌, ◌<◌, [], ◌∷◌, length, drop, get_or, ap, sym, subst, arith}
use Rattle.std.proofs.lemmas.List.{drop_more}
use Rattle.std.proofs.Math.ListN.{drop_of_length-le}
use Rattle.card_days.specs.declared.head.DayHead.{DayHead}
use Rattle.file_view.specs.Deciding.{Decides}
use Rattle.file_view.proofs.string.words_of.Goals as goal

pub loop-left-init : goal.loop-left-init
loop-left-init c = record {
  most = omega arith;
  decides = λ d is.
      let count : c.args.head.now.words ≡ length d.words = ap (λ (h : DayHead). h.words) is.head_is in
      let none : drop c.args.head.now.words d.words ≡ [] = drop_of_length-le d.words (omega (arith, count)) in
      subst (Decides c.new-words.result) (sym none) c.new-words.ensures;
}

pub loop-left-preserved : goal.loop-left-preserved
loop-left-preserved c = record {
  most = omega arith;
  decides = λ d is.
      let left = c.loop-left.left in
      let count : c.args.head.now.words ≡ length d.words = ap (λ (h : DayHead). h.words) is.head_is in
      let low : c.loop-left.left - 1 < length d.words = omega (arith, count, c.loop-left.invariant.most, c.loop-left-test.true) in
      let more : drop (c.loop-left.left - 1) d.words ≡ get_or d.words (c.loop-left.left - 1) 0 ∷ drop c.loop-left.left d.words =
      drop_more d.words (c.loop-left.left - 1) 0 low ∙ ap (λ (n : ℕ). get_or d.words (c.loop-left.left - 1) 0 ∷ drop n d.words) (omega (arith, c.loop-left-test.true)) in
      let value : c.word.result ≡ get_or d.words (c.loop-left.left - 1) 0 = c.word.ensures d is.here low in
      subst (Decides c.put_word.new.self) (ap (λ (w : ℕ). w ∷ drop c.loop-left.left d.words) value ∙ sym more)
      (c.put_word.ensures (drop c.loop-left.left d.words) (c.loop-left.invariant.decides d is));
}

pub returns : goal.returns
returns c = λ d is.
    let none : c.loop-left.left ≡ 0 = omega (arith, c.loop-left-test.false) in
    subst (λ (n : ℕ). Decides c.loop-left.words (drop n d.words)) none (c.loop-left.invariant.decides d is)
