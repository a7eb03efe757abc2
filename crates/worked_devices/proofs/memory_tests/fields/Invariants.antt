use Rattle.unit_model.specs.Image.{IsUnit}
use Rattle.worked_devices.proofs.memory_tests.fields.Given as goal

abbrev pub invariant-loop-field : goal.invariant-loop-field
invariant-loop-field g l = IsUnit (g.M.Medium.state l.unit)
