use Rattle.std.proofs.Common.{◌<◌, ◌≤◌, ◌-◌, List, length}
use Rattle.message_model.specs.Messages.{Message}
use Rattle.file_view.specs.Fronts.{Leads}
use Rattle.file_view.proofs.front.read_front.Given as goal

-- the messages so far
abbrev pub invariant-loop-front : goal.invariant-loop-front
invariant-loop-front l = record {
  inside : l.front.end ≤ length l.b;
  leads : (messages : List Message) × (0 < length messages) × Leads l.b messages l.front;
}

abbrev pub decreases-loop-front : goal.decreases-loop-front
decreases-loop-front l = length l.b - l.front.end
