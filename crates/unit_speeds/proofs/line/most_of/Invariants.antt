use Rattle.std.proofs.Common.{◌≡◌, take, fold}
use Rattle.unit_speeds.specs.Speeds.{greater}
use Rattle.unit_speeds.proofs.line.most_of.Given as goal

-- the greatest of the speeds so far
abbrev pub invariant-loop-speed : goal.invariant-loop-speed
invariant-loop-speed l = l.most ≡ fold greater 0 (take l.speed-index l.speeds)
