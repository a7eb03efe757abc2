use Rattle.std.proofs.Common.{◌+◌, ◌-◌, ◌*◌, ◌/◌, ◌≡◌, ◌≤◌, false, option_map}
use Rattle.tach_media.specs.Medium.{LeavesOnly, HasCause, IsPartlyWritten, put}
use Rattle.unit_model.specs.NewImage.{zeros}
use Rattle.unit_memory.proofs.format.clear.Given as goal

abbrev pub invariant-loop-at : goal.invariant-loop-at
invariant-loop-at g l =
    let before = g.M.Medium.state l.initial.unit in
    let now = g.M.Medium.state l.unit in
    record {
      low : l.from ≤ l.at;
      high : l.at ≤ l.to;
      cleared : now.image ≡ option_map (put l.from (zeros (l.at - l.from))) before.image;
      moments : LeavesOnly before now (IsPartlyWritten l.from (zeros (l.to - l.from)));
      cause : HasCause before now false;
      most : now.clock + 17 * ((l.to - l.at + 4095) / 4096) ≤ before.clock + 17 * ((l.to - l.from + 4095) / 4096);
    }

abbrev pub decreases-loop-at : goal.decreases-loop-at
decreases-loop-at g l = l.to - l.at
