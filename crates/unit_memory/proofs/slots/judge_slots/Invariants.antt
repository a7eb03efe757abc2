use Rattle.std.proofs.Common.{◌≡◌, ◌≤◌, ◌+◌, ◌-◌, ◌/◌, false}
use Rattle.std.specs.Prelude.{IfSome}
use Rattle.std.specs.List.{range_with_len}
use Rattle.tach_media.specs.Medium.{Reads}
use Rattle.unit_model.specs.Decoding.{first_failing}
use Rattle.unit_memory.specs.Judging.{slots_by}
use Rattle.unit_memory.specs.Walks.{walk_from}
use Rattle.unit_memory.proofs.slots.judge_slots.Given as goal

abbrev pub invariant-loop-index : goal.invariant-loop-index
invariant-loop-index g l =
    let before = g.M.Medium.state l.initial.unit in
    let now = g.M.Medium.state l.unit in
    record {
      walked : IfSome before.image (λ x. l.walk ≡ walk_from (l.kept / 1440) x l.fn.start (range_with_len l.from (l.index - l.from)));
      found : IfSome before.image (λ x. l.found ≡ first_failing (slots_by l.kept x l.fn.start.latest (range_with_len l.from (l.index - l.from))));
      few : l.walk.there ≤ l.fn.start.there + (l.index - l.from);
      reads : Reads before now false;
    }
