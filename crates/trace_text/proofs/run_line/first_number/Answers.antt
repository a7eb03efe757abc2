use Rattle.std.proofs.Common.{refl, arith, slice_index_or}
use Rattle.text_fields.proofs.NumberLemmas.{one-more}
use Rattle.trace_text.proofs.Runs.{number-split}
use Rattle.trace_text.proofs.run_line.first_number.Goals as goal

pub loop-i-preserved : goal.loop-i-preserved
loop-i-preserved c =
    let v = c.loop-i.invariant in
    one-more c.args.text.now c.loop-i.i (slice_index_or c.args.text.now c.loop-i.i 0) c.loop-i.value (omega arith) v.0 v.1 refl (omega arith) (omega arith)

pub returns-then-byte-separator : goal.returns-then-byte-separator
returns-then-byte-separator c =
    let v = c.loop-i.invariant in
    number-split c.args.text.now c.loop-i.i c.loop-i.value c.args.separator (omega arith) v.0 v.1 (omega (arith, c.loop-i.auto.value-fits)) (c.if-not-is_numeral.ensures.some refl) (c.if-not-is_numeral.ensures.head refl) c.if-byte-separator.true
