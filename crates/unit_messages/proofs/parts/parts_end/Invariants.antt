use Rattle.std.proofs.Common.{◌≡◌, ◌≤◌, ◌+◌, drop, length}
use Rattle.unit_messages.specs.Parts.{parts_end, most_of}
use Rattle.unit_messages.proofs.parts.parts_end.Given as goal

abbrev pub invariant-loop-i : goal.invariant-loop-i
invariant-loop-i l = record {
  so_far : parts_end l.bytes l.parts 2 ≡ parts_end l.bytes (drop l.i l.parts) l.at;
  inside : l.at ≤ length l.bytes;
  near : l.at + most_of (drop l.i l.parts) ≤ 2 + most_of l.parts;
}
