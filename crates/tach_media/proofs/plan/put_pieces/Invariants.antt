use Rattle.std.proofs.Common.{◌≡◌, ◌<◌, false, take}
use Rattle.tach_media.specs.Plan.{PutsAll}
use Rattle.tach_media.proofs.plan.put_pieces.Given as goal

abbrev pub invariant-loop-held : goal.invariant-loop-held
invariant-loop-held g l =
    record {
      first : l.held-index ≡ 0 → l.medium ≡ l.initial.medium;
      puts : 0 < l.held-index → PutsAll (g.M.Medium.state l.initial.medium) (g.M.Medium.state l.medium) false (take l.held-index l.plan.pieces);
    }
