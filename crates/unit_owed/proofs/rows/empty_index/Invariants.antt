use Rattle.std.proofs.Common.{◌≡◌, ◌<◌, IfSome}
use Rattle.std.specs.Prelude.{find, ◌==◌}
use Rattle.std.specs.List.{range_with_len}
use Rattle.unit_owed.specs.Owed.{session_in}
use Rattle.unit_owed.proofs.rows.empty_index.Given as goal

abbrev pub invariant-loop-row : goal.invariant-loop-row
invariant-loop-row l = record {
  found : l.found ≡ find (λ r. session_in l.rows r == 0) (range_with_len 0 l.row);
  below : IfSome l.found (λ r. r < 8);
}
