use Rattle.file_view.proofs.UnitOneWay.{unit_does_not_fail}
use Rattle.file_view.proofs.laws.a_unit_file_does_not_fail.Goals as goal

pub returns : goal.returns
returns c = unit_does_not_fail
