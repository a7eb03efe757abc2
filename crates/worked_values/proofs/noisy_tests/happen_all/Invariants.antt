use Rattle.std.proofs.Common.{◌≡◌, IfSome}
use Rattle.unit_model.specs.declared.layout.TheConstants.{IMAGE_SIZE}
use Rattle.link_session.specs.Told.{Knows}
use Rattle.worked_values.proofs.noisy_tests.happen_all.Given as goal

-- the unit is the same, and its session knows it
abbrev pub invariant-loop-event : goal.invariant-loop-event
invariant-loop-event g l = ((g.U.Medium.state l.unit).size ≡ IMAGE_SIZE) × IfSome (g.U.Medium.state l.unit).image (Knows l.world.unit.side)
