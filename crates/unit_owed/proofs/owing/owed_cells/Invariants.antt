use Rattle.std.proofs.Common.{◌≡◌, ◌≤◌, [], length}
use Rattle.std.specs.Prelude.{fold}
use Rattle.std.specs.List.{range_with_len}
use Rattle.unit_owed.specs.Owed.{cell_in}
use Rattle.unit_owed.specs.Searching.{with_owed, IsSane, AreBelow}
use Rattle.unit_owed.proofs.owing.owed_cells.Given as goal

abbrev pub invariant-loop-cell : goal.invariant-loop-cell
invariant-loop-cell l = record {
  items : l.owed.items ≡ fold (λ es i. with_owed l.owing.session l.owing.after l.owing.kept es i (cell_in l.rows l.row i)) [] (range_with_len 0 l.cell);
  sane : IsSane l.owing.after l.owing.kept l.owed.items;
  below : AreBelow l.cell l.owed.items;
  room : length l.owed.items ≤ l.cell;
}
