use Rattle.std.proofs.Common.{◌≡◌, ◌<◌, IfSome}
use Rattle.std.specs.Prelude.{find}
use Rattle.std.specs.List.{range_with_len}
use Rattle.unit_owed.specs.Owed.{is_row_of}
use Rattle.unit_owed.proofs.rows.row_index.Given as goal

abbrev pub invariant-loop-row : goal.invariant-loop-row
invariant-loop-row l = record {
  found : l.found ≡ find (is_row_of l.number l.rows) (range_with_len 0 l.row);
  below : IfSome l.found (λ r. r < 8);
}
