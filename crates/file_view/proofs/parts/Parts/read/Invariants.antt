use Rattle.std.proofs.Common.{◌≤◌, ◌-◌, length}
use Rattle.std.specs.Option.{ForSome}
use Rattle.card_layout.specs.Application.{IsApplication}
use Rattle.file_view.proofs.Fronts.{Front}
use Rattle.file_view.proofs.parts.Parts.read.Given as goal

-- the entries before the place, and what was found of them
abbrev pub invariant-loop-place : goal.invariant-loop-place
invariant-loop-place l = record {
  inside : l.place ≤ length l.b;
  sound : ForSome l.found.app IsApplication;
  front : Front l.b l.place l.found;
}

abbrev pub decreases-loop-place : goal.decreases-loop-place
decreases-loop-place l = length l.b - l.place
