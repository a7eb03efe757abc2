use Rattle.std.proofs.Common.{◌≡◌, ◌≤◌, ◌+◌, ◌*◌, min, false, Ok}
use Rattle.std.specs.Prelude.{IfSome}
use Rattle.tach_media.specs.Medium.{Reads}
use Rattle.unit_model.specs.Image.{slot_place, slot_words}
use Rattle.unit_memory.specs.Scans.{start, scan_from}
use Rattle.unit_memory.proofs.words.scan_day.Given as goal

abbrev pub invariant-loop-block : goal.invariant-loop-block
invariant-loop-block g l =
    let before = g.M.Medium.state l.initial.unit in
    let now = g.M.Medium.state l.unit in
    record {
      few : l.scan.count ≤ min (240 * l.block) l.count;
      scanned : IfSome before.image (λ x. scan_from l.kept (slot_place l.index + 16) 0 start (slot_words x l.index (min (240 * l.block) l.count)) ≡ Ok l.scan);
      reads : Reads before now false;
    }
