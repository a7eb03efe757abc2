use Rattle.std.proofs.Common.{◌∙◌, ap}
use Rattle.unit_marks.proofs.Laid.{odometer_laid}
use Rattle.unit_marks.proofs.marks.odometer_in.Goals as goal

pub returns : goal.returns
returns c = λ m begins. ap (λ o. o.0) c.read_odometer.ensures.value ∙ odometer_laid m c.args.message.now begins
