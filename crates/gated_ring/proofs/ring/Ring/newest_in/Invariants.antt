use Rattle.std.proofs.Common.{◌≡◌, ◌≤◌, ◌-◌, false, []}
use Rattle.std.specs.Prelude.{IfSome, filter}
use Rattle.std.specs.List.{range_with_len}
use Rattle.tach_media.specs.Medium.{Reads}
use Rattle.gated_ring.specs.Ring.{is_there}
use Rattle.gated_ring.proofs.ring.Ring.newest_in.Given as goal

abbrev pub invariant-loop-index : goal.invariant-loop-index
invariant-loop-index g l =
    let before = g.M.Medium.state l.initial.medium in
    let now = g.M.Medium.state l.medium in
    record {
      high : l.index ≤ l.to;
      low : l.from ≤ l.index;
      none : IfSome before.image (λ x. filter (is_there l.self x) (range_with_len l.index (l.to - l.index)) ≡ []);
      reads : Reads before now false;
    }

abbrev pub decreases-loop-index : goal.decreases-loop-index
decreases-loop-index g l = l.index
