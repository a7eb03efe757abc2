use Rattle.std.proofs.Common.{arith, ◌∙◌, sym}
use Rattle.std.proofs.lemmas.Fmt.{decimal_injective}
use Rattle.text_fields.proofs.numbers.number_between.Goals as goal

pub returns-in_default-clause-none : goal.returns-in_default-clause-none
returns-in_default-clause-none c = λ n is low high.
    let same = decimal_injective c.in-Some.n n (omega arith) (omega (arith, high)) (sym c.in-Some.ensures.found ∙ is) in
    omega (arith, same, high)

pub returns-in_default-2-clause-none : goal.returns-in_default-2-clause-none
returns-in_default-2-clause-none c = λ n is low high.
    let same = decimal_injective c.in-Some.n n (omega arith) (omega (arith, high)) (sym c.in-Some.ensures.found ∙ is) in
    omega (arith, same, low)
