use Rattle.std.proofs.Common.{◌≡◌, ℕ, ◌+◌, ◌-◌, ◌*◌, List, ◌++◌, arith, sym, ap, ◌∙◌}
use Rattle.unit_model.specs.gated_ring.Ring.{number_at}
use Rattle.unit_model.specs.Image.{words_at}
use Rattle.unit_model.proofs.Words.{words_split}
use Rattle.unit_memory.specs.Scans.{scan_from}
use Rattle.unit_memory.proofs.Scanning.{scan_more, scan_fails, words_more, words_length}
use Rattle.unit_memory.proofs.words.scan_words.Goals as goal

pub loop-more-preserved : goal.loop-more-preserved
loop-more-preserved c =
    let bytes = c.args.bytes.now in
    let n = c.loop-more.more in
    let w = c.word_in-word.result in
    let was = c.loop-more.invariant in
    let word : w ≡ number_at bytes (0 + 2 * n) 2 = c.word_in-word.ensures.word ∙ ap (λ (q : ℕ). number_at bytes q 2) (let e : 2 * n ≡ 0 + 2 * n = omega arith in e) in
    record {
      few = omega (arith, c.in-Some.ensures.more, was.few);
      scanned = scan_more c.args.kept c.args.base c.args.nth c.args.start n (words_at bytes 0 n) (words_at bytes 0 (n + 1)) w c.loop-more.scan c.in-Some.next (words_length bytes 0 n) (words_more bytes 0 n w word) was.scanned (sym c.in-Some.ensures.next);
    }

pub returns-in-None-clause-scan : goal.returns-in-None-clause-scan
returns-in-None-clause-scan c =
    let bytes = c.args.bytes.now in
    let n = c.loop-more.more in
    let w = c.word_in-word.result in
    let was = c.loop-more.invariant in
    let word : w ≡ number_at bytes (0 + 2 * n) 2 = c.word_in-word.ensures.word ∙ ap (λ (q : ℕ). number_at bytes q 2) (let e : 2 * n ≡ 0 + 2 * n = omega arith in e) in
    let count = c.args.count in
    let rest = words_at bytes (0 + 2 * (n + 1)) (count - (n + 1)) in
    let whole : n + 1 + (count - (n + 1)) ≡ count = omega (arith, c.loop-more-test.true) in
    sym (scan_fails c.args.kept c.args.base c.args.nth c.args.start n (words_at bytes 0 n) (words_at bytes 0 count) rest w c.loop-more.scan (words_length bytes 0 n)
    (ap (words_at bytes 0) (sym whole) ∙ words_split bytes 0 (n + 1) (count - (n + 1)) ∙ ap (λ (l : List ℕ). l ++ rest) (words_more bytes 0 n w word)) was.scanned (sym c.in-None.ensures.next))

pub returns-clause-scan : goal.returns-clause-scan
returns-clause-scan c =
    let bytes = c.args.bytes.now in
    let end : c.loop-more.more ≡ c.args.count = omega (arith, c.loop-more-test.false, c.loop-more.auto.more-end) in
    sym c.loop-more.invariant.scanned ∙ ap (λ (m : ℕ). scan_from c.args.kept c.args.base c.args.nth c.args.start (words_at bytes 0 m)) end
