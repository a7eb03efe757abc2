use Rattle.std.proofs.Common.{◌≡◌, ◌+◌, ◌≤◌, length}
use Rattle.file_json.specs.Days.{days_from, items_count}
use Rattle.file_json.proofs.days.count_days.Given as goal

-- those so far with the records behind are all
abbrev pub invariant-walk : goal.invariant-walk
invariant-walk l = record {
  within : l.at.place ≤ length l.fn.circle;
  few : l.count ≤ l.at.place;
  so_far : l.count + items_count (days_from l.at l.fn.circle) ≡ items_count (days_from l.fn.all l.fn.circle);
}

abbrev pub decreases-walk : goal.decreases-walk
decreases-walk l = l.at.most
