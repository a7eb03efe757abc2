use Rattle.std.proofs.Common.{◌≡◌, ◌≤◌, false}
use Rattle.std.specs.Prelude.{IfSome}
use Rattle.tach_media.specs.Medium.{Reads}
use Rattle.speed_store.specs.Stores.{there_count}
use Rattle.speed_store.proofs.store.count_there.Given as goal

abbrev pub invariant-loop-index : goal.invariant-loop-index
invariant-loop-index g l =
    let before = g.M.Medium.state l.initial.unit in
    let now = g.M.Medium.state l.unit in
    record {
      found : IfSome before.image (λ x. l.count ≡ there_count x l.index);
      few : l.count ≤ l.index;
      reads : Reads before now false;
    }
