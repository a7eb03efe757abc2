use Rattle.std.specs.Prelude.{IfSome}
use Rattle.unit_model.specs.Image.{IsUnit}
use Rattle.unit_minutes.specs.Image.{Agrees}
use Rattle.worked_rows.proofs.unit.keeping.keep_all.Given as goal

abbrev pub invariant-loop-kept : goal.invariant-loop-kept
invariant-loop-kept g l = record {
  unit : IsUnit (g.M.Medium.state l.unit);
  agrees : IfSome (g.M.Medium.state l.unit).image (Agrees l.journal);
}
