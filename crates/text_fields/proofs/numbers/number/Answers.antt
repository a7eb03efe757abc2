use Rattle.std.proofs.Common.{arith}
use Rattle.text_fields.proofs.NumberLemmas.{no_digits, leading_zero, number-found, number-none}
use Rattle.text_fields.proofs.numbers.number.Goals as goal
use Rattle.text_fields.proofs.numbers.number.Goals.{else-digits-eq48-via-then-digits-eq48+else-digits-gt-DIGITS_OF_ZERO, else-digits-eq48-via-else-digits-eq48}

pub returns-then-digits-eq0-clause-none : goal.returns-then-digits-eq0-clause-none
returns-then-digits-eq0-clause-none c = λ n small is.
    no_digits n c.args.digits.now small is (omega arith)

pub returns-then-digits-gt-DIGITS_OF_ZERO-clause-none : goal.returns-then-digits-gt-DIGITS_OF_ZERO-clause-none
returns-then-digits-gt-DIGITS_OF_ZERO-clause-none c = λ n small is.
    leading_zero n c.args.digits.now small is c.if-digits-eq48.true (omega arith)

pub returns-clause-found : goal.returns-clause-found
returns-clause-found c =
    number-found c.args.digits.now c.value.result c.value.ensures.found (omega arith) (λ zero.
    elim c.else-digits-eq48.branch [
      | else-digits-eq48-via-then-digits-eq48+else-digits-gt-DIGITS_OF_ZERO w ↦ omega arith
      | else-digits-eq48-via-else-digits-eq48 w ↦ omega (arith, zero)
    ])

pub returns-clause-none : goal.returns-clause-none
returns-clause-none c = number-none c.args.digits.now c.value.result c.value.ensures.none
