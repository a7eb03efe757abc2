use Rattle.std.proofs.Common.{◌≡◌, false, map}
use Rattle.std.specs.Prelude.{IfSome}
use Rattle.std.specs.List.{range_with_len}
use Rattle.tach_media.specs.Medium.{Reads}
use Rattle.unit_model.specs.Decoding.{first_failing, cell_check}
use Rattle.unit_memory.proofs.judge.bad_cell.Given as goal

abbrev pub invariant-loop-nth : goal.invariant-loop-nth
invariant-loop-nth g l =
    let before = g.M.Medium.state l.initial.unit in
    let now = g.M.Medium.state l.unit in
    record {
      found : IfSome before.image (λ x. l.found ≡ first_failing (map (cell_check x) (range_with_len 0 l.nth)));
      reads : Reads before now false;
    }
