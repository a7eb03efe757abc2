use Rattle.std.proofs.Common.{◌≡◌, ◌+◌, ◌-◌, ◌*◌, ◌%◌, ℕ, List, Option, Some, IfSome, Bool, true, false, cond, drop, arith, refl, sym, ◌∙◌, ap, subst, below_more}
use Rattle.std.specs.Prelude.{◌&&◌, nat_le, nat_lt}
use Rattle.tach_media.specs.Medium.{bytes_at}
use Rattle.tach_media.proofs.Runs.{both_told, reads_then}
use Rattle.card_model.specs.Bytes.{two_bytes}
use Rattle.card_model.specs.Image.{turned, string_of}
use Rattle.card_model.specs.Walk.{words_of}
use Rattle.card_model.specs.Checks.{first_failing, word_checks}
use Rattle.card_days.specs.Loading.{ArePairs}
use Rattle.card_days.proofs.LoadLemmas.{word_step, pair_step}
use Rattle.card_days.proofs.Told.{from_told}
use Rattle.card_days.proofs.circle.Circle.first_bad_word.Goals as goal

pub two_at-requires-clause-most : goal.two_at-requires-clause-most
two_at-requires-clause-most g c = omega (arith, c.loop-index-test.true, c.requires.few, c.requires.shape.low)

pub loop-index-preserved : goal.loop-index-preserved
loop-index-preserved g c =
    let r = c.args.self.now in
    let p = c.args.place in
    let i = c.loop-index.index in
    let inv = c.loop-index.invariant in
    let w = c.in_ok-minute.field-0 in
    let n = c.args.count in
    let image = (g.M.Medium.state c.args.medium.now).image in
    let read = subst (λ (o : Option (List ℕ)). IfSome o (λ x. bytes_at (turned p (string_of r x)) (12 + 2 * i) 2 ≡ two_bytes w)) (inv.reads.same refl) c.in_ok-minute.ensures.spelled in
    let between : c.is_between.result ≡ true = grind (arith, c.if-not-is_between.false) in
    let test : (nat_le c.loop-index.from (w % 2048) && nat_lt (w % 2048) c.loop-index.below) ≡ true = sym c.is_between.ensures ∙ between in
    record {
      high = omega (arith, c.loop-index-test.true);
      passed = both_told image (λ x. first_failing (word_checks 12 0 1 (words_of n (drop 12 (turned p (string_of r x))))) ≡ first_failing (word_checks (12 + 2 * (i + 1)) (w % 2048) 1440 (words_of (n - (i + 1)) (drop (2 * (i + 1)) (drop 12 (turned p (string_of r x))))))) inv.passed read (λ x was passed here.
          passed ∙ word_step (turned p (string_of r x)) n i c.loop-index.from c.loop-index.below w c.loop-index-test.true here
          ∙ ap (λ (b : Bool). cond b (first_failing (word_checks (12 + 2 * (i + 1)) (w % 2048) 1440 (words_of (n - (i + 1)) (drop (2 * (i + 1)) (drop 12 (turned p (string_of r x))))))) (Some (12 + 2 * i))) test);
      pairs = both_told image (λ x. ArePairs (i + 1) (drop 12 (turned p (string_of r x)))) inv.pairs read (λ x was pairs here. below_more _ _ pairs (pair_step (turned p (string_of r x)) i w here));
      reads = reads_then inv.reads c.in_ok-minute.ensures.reads;
    }

pub returns-then-not-is_between-clause-first : goal.returns-then-not-is_between-clause-first
returns-then-not-is_between-clause-first g c =
    let r = c.args.self.now in
    let p = c.args.place in
    let i = c.loop-index.index in
    let inv = c.loop-index.invariant in
    let w = c.in_ok-minute.field-0 in
    let n = c.args.count in
    let image = (g.M.Medium.state c.args.medium.now).image in
    let read = subst (λ (o : Option (List ℕ)). IfSome o (λ x. bytes_at (turned p (string_of r x)) (12 + 2 * i) 2 ≡ two_bytes w)) (inv.reads.same refl) c.in_ok-minute.ensures.spelled in
    let outside : c.is_between.result ≡ false = grind (arith, c.if-not-is_between.true) in
    let test : (nat_le c.loop-index.from (w % 2048) && nat_lt (w % 2048) c.loop-index.below) ≡ false = sym c.is_between.ensures ∙ outside in
    both_told image (λ x. Some (12 + 2 * i) ≡ first_failing (word_checks 12 0 1 (words_of n (drop 12 (turned p (string_of r x)))))) inv.passed read (λ x was passed here.
    sym (passed ∙ word_step (turned p (string_of r x)) n i c.loop-index.from c.loop-index.below w c.loop-index-test.true here
    ∙ ap (λ (b : Bool). cond b (first_failing (word_checks (12 + 2 * (i + 1)) (w % 2048) 1440 (words_of (n - (i + 1)) (drop (2 * (i + 1)) (drop 12 (turned p (string_of r x))))))) (Some (12 + 2 * i))) test))

pub returns-clause-first : goal.returns-clause-first
returns-clause-first g c =
    let r = c.args.self.now in
    let p = c.args.place in
    let i = c.loop-index.index in
    let n = c.args.count in
    let inv = c.loop-index.invariant in
    let none : c.args.count - c.loop-index.index ≡ 0 = omega (arith, c.loop-index-test.false) in
    from_told (g.M.Medium.state c.args.medium.now).image _ _ inv.passed (λ x was passed.
    sym (passed ∙ ap (λ (k : ℕ). first_failing (word_checks (12 + 2 * i) c.loop-index.from c.loop-index.below (words_of k (drop (2 * i) (drop 12 (turned p (string_of r x))))))) none))

pub returns-clause-spelled : goal.returns-clause-spelled
returns-clause-spelled g c =
    let r = c.args.self.now in
    let inv = c.loop-index.invariant in
    let all : c.loop-index.index ≡ c.args.count = omega (arith, inv.high, c.loop-index-test.false) in
    from_told (g.M.Medium.state c.args.medium.now).image _ _ inv.pairs (λ x was pairs none. subst (λ (k : ℕ). ArePairs k (drop 12 (turned c.args.place (string_of r x)))) all pairs)
