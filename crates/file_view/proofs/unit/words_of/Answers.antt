use Rattle.std.proofs.Common.{◌≡◌, ◌∙◌, ℕ, ◌-◌, ◌<◌, List, [], ◌∷◌, length, drop, get_or, ap, sym, subst, arith}
use Rattle.std.proofs.lemmas.List.{drop_more}
use Rattle.std.proofs.Math.ListN.{drop_of_length-le}
use Rattle.byteorder.specs.Endian.{big_number}
use Rattle.file_view.specs.UnitShowing.{SlotsDecide}
use Rattle.file_view.proofs.UnitDays.{stored_word, stored_words}
use Rattle.file_view.proofs.unit.words_of.Goals as goal

pub loop-left-init : goal.loop-left-init
loop-left-init c = record {
  most = omega arith;
  decide = λ m is.
      let none : drop c.args.day.words m.words ≡ [] = drop_of_length-le m.words (omega (arith, stored_words c.args.b.now c.args.day m is)) in
      subst (SlotsDecide c.new-words.result) (sym none) c.new-words.ensures;
}

pub loop-left-preserved : goal.loop-left-preserved
loop-left-preserved c = record {
  most = omega arith;
  decide = λ m is.
      let count : length m.words ≡ c.args.day.words = stored_words c.args.b.now c.args.day m is in
      let low : c.loop-left.left - 1 < length m.words = omega (arith, count, c.loop-left.invariant.most, c.loop-left-test.true) in
      let more : drop (c.loop-left.left - 1) m.words ≡ get_or m.words (c.loop-left.left - 1) 0 ∷ drop c.loop-left.left m.words =
      drop_more m.words (c.loop-left.left - 1) 0 low ∙ ap (λ (n : ℕ). get_or m.words (c.loop-left.left - 1) 0 ∷ drop n m.words) (omega (arith, c.loop-left-test.true)) in
      let value : c.read_u16-word.result ≡ get_or m.words (c.loop-left.left - 1) 0 =
      c.read_u16-word.ensures ∙ ap (λ (l : List ℕ). big_number 2 l) c.part.ensures.bytes ∙ stored_word c.args.b.now c.args.day m is (c.loop-left.left - 1) (omega (arith, low, count)) in
      subst (SlotsDecide c.put_word.new.self) (ap (λ (w : ℕ). w ∷ drop c.loop-left.left m.words) value ∙ sym more)
      (c.put_word.ensures (drop c.loop-left.left m.words) (c.loop-left.invariant.decide m is));
}

pub returns : goal.returns
returns c = λ m is.
    let none : c.loop-left.left ≡ 0 = omega (arith, c.loop-left-test.false) in
    subst (λ (n : ℕ). SlotsDecide c.loop-left.words (drop n m.words)) none (c.loop-left.invariant.decide m is)
