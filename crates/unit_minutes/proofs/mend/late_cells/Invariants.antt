use Rattle.std.proofs.Common.{◌≡◌, ◌<◌, ◌≤◌, IfSome, false, length}
use Rattle.tach_media.specs.Medium.{Reads}
use Rattle.tach_media.specs.Plan.{more, none}
use Rattle.unit_model.specs.declared.layout.TheConstants.{IMAGE_SIZE}
use Rattle.unit_minutes.specs.Mends.{late_cells}
use Rattle.unit_minutes.proofs.mend.late_cells.Given as goal

abbrev pub invariant-loop-nth : goal.invariant-loop-nth
invariant-loop-nth g l =
    let before = g.M.Medium.state l.initial.unit in
    let now = g.M.Medium.state l.unit in
    record {
      plan : IfSome before.image (λ x. l.plan ≡ more (none 0 IMAGE_SIZE) (late_cells l.kept l.nth x));
      front : l.plan.from ≡ 0;
      end : l.plan.end ≡ IMAGE_SIZE;
      few : length l.plan.pieces ≤ l.nth;
      first : l.nth ≡ 0 → l.unit ≡ l.initial.unit;
      reads : 0 < l.nth → Reads before now false;
    }
