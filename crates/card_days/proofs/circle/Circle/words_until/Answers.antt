use Rattle.std.proofs.Common.{◌≡◌, ◌≤◌, ◌<◌, ◌+◌, ◌-◌, ◌/◌, ◌⊎◌, ℕ, List, Option, IfSome, inr, get_or, length, arith, refl, sym, ap, subst}
use Rattle.tach_media.proofs.Runs.{both_told, reads_then}
use Rattle.activity_codec.specs.Words.{word_minute}
use Rattle.card_model.specs.Days.{Day}
use Rattle.card_model.specs.Image.{IsAt}
use Rattle.card_model.specs.Changes.{early}
use Rattle.card_model.proofs.Reading.{day_is}
use Rattle.card_days.proofs.Cutting.{early_is, words_rise}
use Rattle.card_days.proofs.circle.Circle.words_until.Goals as goal

pub loop-kept-preserved : goal.loop-kept-preserved
loop-kept-preserved g c =
    let r = c.args.self.now in
    let k = c.loop-kept.kept in
    let middle = k + (c.loop-kept.end - k) / 2 in
    let inv = c.loop-kept.invariant in
    let w = c.in_ok-word.word in
    let image = (g.M.Medium.state c.args.medium.now).image in
    let word = subst (λ (o : Option (List ℕ)). IfSome o (λ x. (d : Day) → IsAt r x c.args.place d → middle < length d.words → w ≡ get_or d.words middle 0)) (inv.reads.same refl) c.in_ok-word.ensures.word in
    record {
      ordered = omega (arith, c.loop-kept-test.true);
      high = inv.high;
      passed = both_told image (λ x. (d : Day) → IsAt r x c.args.place d → c.args.count ≡ length d.words → (j : ℕ) → j < middle + 1 → word_minute (get_or d.words j 0) ≤ c.args.minute) inv.passed word (λ x was passed read d at count j lt.
          let below : middle < length d.words = omega (arith, c.loop-kept-test.true, inv.high, count) in
          let minute : word_minute w ≡ word_minute (get_or d.words middle 0) = ap word_minute (read d at below) in
          let rises = words_rise d.words j middle (day_is 0 at.older d at.later at.holds.ordered).ordered (omega (arith, lt)) below in
          omega (arith, rises, minute, c.if-word-minute.false));
      later = inv.later;
      reads = reads_then inv.reads c.in_ok-word.ensures.reads;
    }

pub loop-kept-preserved-then-word-minute : goal.loop-kept-preserved-then-word-minute
loop-kept-preserved-then-word-minute g c =
    let r = c.args.self.now in
    let k = c.loop-kept.kept in
    let middle = k + (c.loop-kept.end - k) / 2 in
    let inv = c.loop-kept.invariant in
    let w = c.in_ok-word.word in
    let image = (g.M.Medium.state c.args.medium.now).image in
    let word = subst (λ (o : Option (List ℕ)). IfSome o (λ x. (d : Day) → IsAt r x c.args.place d → middle < length d.words → w ≡ get_or d.words middle 0)) (inv.reads.same refl) c.in_ok-word.ensures.word in
    record {
      ordered = omega (arith, c.loop-kept-test.true);
      high = omega (arith, c.loop-kept-test.true, inv.high);
      passed = inv.passed;
      later = both_told image (λ x. (d : Day) → IsAt r x c.args.place d → c.args.count ≡ length d.words → (middle ≡ length d.words) ⊎ (c.args.minute < word_minute (get_or d.words middle 0))) inv.later word (λ x was later read d at count.
          let below : middle < length d.words = omega (arith, c.loop-kept-test.true, inv.high, count) in
          let minute : word_minute w ≡ word_minute (get_or d.words middle 0) = ap word_minute (read d at below) in
          inr (omega (arith, minute, c.if-word-minute.true)));
      reads = reads_then inv.reads c.in_ok-word.ensures.reads;
    }

pub returns-clause-words : goal.returns-clause-words
returns-clause-words g c =
    let r = c.args.self.now in
    let k = c.loop-kept.kept in
    let inv = c.loop-kept.invariant in
    both_told (g.M.Medium.state c.args.medium.now).image (λ x. (d : Day) → IsAt r x c.args.place d → c.args.count ≡ length d.words → k ≡ length (early c.args.minute d.words)) inv.passed inv.later (λ x was passed later d at count.
    let all : k ≡ c.loop-kept.end = omega (arith, inv.ordered, c.loop-kept-test.false) in
    early_is c.args.minute d.words k (omega (arith, inv.high, inv.ordered, count)) (passed d at count)
    (subst (λ (n : ℕ). (n ≡ length d.words) ⊎ (c.args.minute < word_minute (get_or d.words n 0))) (sym all) (later d at count)))
