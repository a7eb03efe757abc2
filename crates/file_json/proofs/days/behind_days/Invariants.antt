use Rattle.std.proofs.Common.{◌≡◌, ◌≤◌, length}
use Rattle.file_json.specs.Days.{days_from, items_behind}
use Rattle.file_json.proofs.days.behind_days.Given as goal

-- without those that are still to be passed over they are the ones that are wanted
abbrev pub invariant-walk : goal.invariant-walk
invariant-walk l = record {
  within : l.at.place ≤ length l.fn.circle;
  so_far : items_behind l.left (days_from l.at l.fn.circle) ≡ items_behind l.fn.skip (days_from l.fn.all l.fn.circle);
}

abbrev pub decreases-walk : goal.decreases-walk
decreases-walk l = l.at.most
