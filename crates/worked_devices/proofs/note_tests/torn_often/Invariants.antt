use Rattle.unit_model.specs.Image.{IsUnit}
use Rattle.worked_devices.proofs.note_tests.torn_often.Given as goal

abbrev pub invariant-loop-begin : goal.invariant-loop-begin
invariant-loop-begin g l = IsUnit (g.M.Medium.state l.unit)
