use Rattle.std.proofs.Common.{◌≡◌}
use Rattle.unit_notes.proofs.Choosing.{held_first}
use Rattle.unit_notes.proofs.tables.held_table.Given as goal

-- the events of the places so far
abbrev pub invariant-loop-index : goal.invariant-loop-index
invariant-loop-index l = l.held.items ≡ held_first l.kind l.table l.index
