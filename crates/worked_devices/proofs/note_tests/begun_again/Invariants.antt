use Rattle.unit_model.specs.Image.{IsUnit}
use Rattle.worked_devices.proofs.note_tests.begun_again.Given as goal

abbrev pub invariant-loop-failed : goal.invariant-loop-failed
invariant-loop-failed g l = IsUnit (g.M.Medium.state l.unit)
