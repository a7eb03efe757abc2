use Rattle.std.proofs.Common.{◌≡◌, false, length, map, take}
use Rattle.std.specs.Prelude.{IfSome}
use Rattle.std.specs.List.{range_with_len}
use Rattle.tach_media.specs.Medium.{Reads}
use Rattle.device_state.specs.Units.{owed_in}
use Rattle.device_state.proofs.unit.read_owed.Given as goal

-- the rows so far, of eight, and that all was read
abbrev pub invariant-loop-row : goal.invariant-loop-row
invariant-loop-row g l =
    let before = g.M.Medium.state l.initial.unit in
    let now = g.M.Medium.state l.unit in
    record {
      rows : IfSome before.image (λ x. take l.row l.rows ≡ map (owed_in l.seen x) (range_with_len 0 l.row));
      full : length l.rows ≡ 8;
      reads : Reads before now false;
    }
