use Rattle.std.proofs.Common.{◌≡◌, ◌≤◌, ◌-◌, ◌++◌}
use Rattle.std.specs.List.{range_with_len}
use Rattle.card_layout.specs.declared.files.Application.{Application}
use Rattle.file_view.proofs.Ringed.{there_among}
use Rattle.file_view.proofs.vehicles.add_vehicles.Given as goal

-- the indices so far
abbrev pub invariant-loop-i : goal.invariant-loop-i
invariant-loop-i l = record {
  few : l.i - l.fn.from ≤ l.fn.to - l.fn.from;
  told : (app : Application) → l.all.items ≡ l.initial.all.items ++ there_among app l.value (range_with_len l.fn.from (l.i - l.fn.from));
}
