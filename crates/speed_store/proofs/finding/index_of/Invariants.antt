use Rattle.std.proofs.Common.{◌<◌, false}
use Rattle.std.specs.Prelude.{IfSome}
use Rattle.tach_media.specs.Medium.{Reads}
use Rattle.gated_ring.specs.Ring.{PointsInside}
use Rattle.speed_model.specs.Stored.{speed_ring}
use Rattle.speed_store.specs.Finding.{IsFound}
use Rattle.speed_store.proofs.BlockFinding.{so_far}
use Rattle.speed_store.proofs.finding.index_of.Given as goal

abbrev pub invariant-loop-step : goal.invariant-loop-step
invariant-loop-step g l =
    let before = g.M.Medium.state l.fn.unit in
    let now = g.M.Medium.state l.unit in
    record {
      found : IfSome before.image (λ x. PointsInside speed_ring x → IsFound l.nth (so_far x l.step) l.found);
      below : l.found.index < 1440;
      reads : Reads before now false;
    }
