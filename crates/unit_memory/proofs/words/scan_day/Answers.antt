use Rattle.std.proofs.Common.{◌≡◌, ℕ, ◌+◌, ◌-◌, ◌*◌, ◌≤◌, min, IfOk, Ok, Err, Result, arith, refl, sym, ap, subst, ◌∙◌}
use Rattle.std.specs.Prelude.{IfSome}
use Rattle.tach_media.proofs.Runs.{reads_then, both_told}
use Rattle.unit_model.specs.declared.layout.TheConstants.{DAY_WORDS}
use Rattle.unit_model.specs.Image.{slot_place, slot_words, words_at}
use Rattle.unit_model.proofs.Words.{words_split}
use Rattle.unit_memory.specs.Scans.{start, scan_from}
use Rattle.unit_memory.specs.declared.words.Scan.{Scan}
use Rattle.unit_memory.proofs.Scanning.{scan_then, scan_stops, words_length}
use Rattle.unit_memory.proofs.Told.{carried}
use Rattle.unit_memory.proofs.words.scan_day.Goals as goal

pub loop-block-preserved : goal.loop-block-preserved
loop-block-preserved g c =
    let i = c.args.index in
    let base = slot_place i + DAY_WORDS.place in
    let k = c.args.kept in
    let b = c.loop-block.block in
    let n = b * 240 in
    let more = c.min-more.result in
    let was = c.loop-block.invariant in
    let found = c.in_ok-found.found in
    let so_far : min (240 * b) c.args.count ≡ n = omega arith in
    let later : min (240 * (b + 1)) c.args.count ≡ n + more = omega arith in
    let few : c.in-Ok.next.count ≤ n + more = subst (λ (r : Result Scan ℕ). IfOk r (λ s. s.count ≤ n + more)) c.in-Ok.is c.in_ok-found.ensures.few in
    let block : IfSome (g.M.Medium.state c.args.unit.now).image (λ x. found ≡ scan_from k base n c.loop-block.scan (words_at x (base + 2 * n) more)) =
    carried (λ x. found ≡ scan_from k base n c.loop-block.scan (words_at x (base + 2 * n) more)) (was.reads.same refl) c.in_ok-found.ensures.scan in
    record {
      few = omega (arith, few, later);
      scanned = both_told _ _ was.scanned block (λ x is scanned block.
          scan_then k base n start c.loop-block.scan (slot_words x i n) (words_at x (base + 2 * n) more) (slot_words x i (min (240 * (b + 1)) c.args.count)) (Ok c.in-Ok.next) (words_length x base n)
          (ap (slot_words x i) later ∙ words_split x base n more) (ap (λ (m : ℕ). scan_from k base 0 start (slot_words x i m)) (sym so_far) ∙ scanned) (sym c.in-Ok.is ∙ block));
      reads = reads_then was.reads c.in_ok-found.ensures.reads;
    }

pub returns-in-Err-clause-scan : goal.returns-in-Err-clause-scan
returns-in-Err-clause-scan g c =
    let i = c.args.index in
    let base = slot_place i + DAY_WORDS.place in
    let k = c.args.kept in
    let b = c.loop-block.block in
    let n = b * 240 in
    let more = c.min-more.result in
    let rest = c.args.count - (n + more) in
    let was = c.loop-block.invariant in
    let found = c.in_ok-found.found in
    let so_far : min (240 * b) c.args.count ≡ n = omega arith in
    let whole : c.args.count ≡ n + more + rest = omega arith in
    let block : IfSome (g.M.Medium.state c.args.unit.now).image (λ x. found ≡ scan_from k base n c.loop-block.scan (words_at x (base + 2 * n) more)) =
    carried (λ x. found ≡ scan_from k base n c.loop-block.scan (words_at x (base + 2 * n) more)) (was.reads.same refl) c.in_ok-found.ensures.scan in
    both_told _ _ was.scanned block (λ x is scanned block.
    sym (scan_stops k base c.in-Err.place start (slot_words x i (n + more)) (words_at x (base + 2 * (n + more)) rest) (slot_words x i c.args.count) (ap (slot_words x i) whole ∙ words_split x base (n + more) rest)
    (scan_then k base n start c.loop-block.scan (slot_words x i n) (words_at x (base + 2 * n) more) (slot_words x i (n + more)) (Err c.in-Err.place) (words_length x base n)
    (words_split x base n more) (ap (λ (m : ℕ). scan_from k base 0 start (slot_words x i m)) (sym so_far) ∙ scanned) (sym c.in-Err.is ∙ block))))
