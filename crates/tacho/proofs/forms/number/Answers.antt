use Rattle.std.proofs.Common.{arith}
use Rattle.tacho.proofs.Spelled.{number-is}
use Rattle.tacho.proofs.forms.number.Goals as goal

pub returns-clause-value : goal.returns-clause-value
returns-clause-value c =
    number-is c.args.least c.args.most c.as_bytes.result.now c.args.word.now c.number_between.result (omega (arith, c.ranges.most.fits)) c.as_bytes.ensures.value
    c.number_between.ensures.found c.number_between.ensures.none
