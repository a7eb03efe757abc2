use Rattle.std.proofs.Common.{◌≤◌, ◌-◌, List, length}
use Rattle.message_model.specs.Messages.{Message, IsUnitFile}
use Rattle.unit_download.proofs.Reading.{IsAt}
use Rattle.unit_download.proofs.counting.day_count.Given as goal

-- what is left from the place on, and the days before it
abbrev pub invariant-loop-place : goal.invariant-loop-place
invariant-loop-place l = record {
  inside : l.place ≤ length l.b;
  few : l.days ≤ l.place;
  at : (messages : List Message) → IsUnitFile messages l.b → IsAt messages l.b l.place l.days;
}

abbrev pub decreases-loop-place : goal.decreases-loop-place
decreases-loop-place l = length l.b - l.place
