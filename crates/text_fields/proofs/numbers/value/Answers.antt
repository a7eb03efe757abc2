use Rattle.std.proofs.Common.{refl, arith, ◌+◌, slice_index_or}
use Rattle.text_fields.proofs.NumberLemmas.{one-more, other_byte, no_smaller}
use Rattle.text_fields.proofs.numbers.value.Goals as goal
use Rattle.text_fields.proofs.numbers.value.Goals.{then-digit-lt48-via-then-digit-lt48, then-digit-lt48-via-else-digit-lt48+then-digit-gt57}

pub returns-then-digit-lt48-clause-none : goal.returns-then-digit-lt48-clause-none
returns-then-digit-lt48-clause-none c = λ all small.
    let here = other_byte c.args.digits.now c.loop-digit.digit-index all (omega arith) in
    elim c.then-digit-lt48.branch [
      | then-digit-lt48-via-then-digit-lt48 w ↦ omega (arith, here.0)
      | then-digit-lt48-via-else-digit-lt48+then-digit-gt57 w ↦ omega (arith, here.1)
    ]

pub returns-then-next-gt-LAST-clause-none : goal.returns-then-next-gt-LAST-clause-none
returns-then-next-gt-LAST-clause-none c = λ all small.
    let v = c.loop-digit.invariant in
    let more = one-more c.args.digits.now c.loop-digit.digit-index (slice_index_or c.args.digits.now c.loop-digit.digit-index 0) c.loop-digit.value (omega arith) v.0 v.1 refl (omega arith) (omega arith) in
    let le = no_smaller c.args.digits.now (c.loop-digit.digit-index + 1) in
    omega (arith, more.1, le, small)

pub loop-digit-preserved : goal.loop-digit-preserved
loop-digit-preserved c =
    let v = c.loop-digit.invariant in
    one-more c.args.digits.now c.loop-digit.digit-index (slice_index_or c.args.digits.now c.loop-digit.digit-index 0) c.loop-digit.value (omega arith) v.0 v.1 refl (omega arith) (omega arith)
