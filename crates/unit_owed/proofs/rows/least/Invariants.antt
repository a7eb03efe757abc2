use Rattle.std.proofs.Common.{◌≡◌, ◌<◌, IfSome, None}
use Rattle.std.specs.Prelude.{fold}
use Rattle.std.specs.List.{range_with_len}
use Rattle.unit_owed.specs.Rows.{lesser}
use Rattle.unit_owed.proofs.rows.least.Given as goal

abbrev pub invariant-loop-row : goal.invariant-loop-row
invariant-loop-row l = record {
  best : l.best ≡ fold (lesser l.rows l.spared) None (range_with_len 0 l.row);
  below : IfSome l.best (λ r. r < 8);
}
