use Rattle.std.proofs.Common.{◌≡◌, ◌≤◌, ◌+◌, ◌-◌, ◌%◌, length, true, arith}
use Rattle.std.proofs.lemmas.Bool.Decides.{nat_tests}
use Rattle.sector_medium.proofs.Tearing.{cut_torn}
use Rattle.sector_medium.proofs.mem_disk.tear.Goals as goal
use Rattle.sector_medium.proofs.mem_disk.tear.Goals.{then-bytes-le4, else-bytes-le4}
use Rattle.sector_medium.proofs.mem_disk.tear.Goals.{then-not-is_kept_whole-via-then-not-is_kept_whole}
use Rattle.sector_medium.proofs.mem_disk.tear.Goals.{then-not-is_kept_whole-via-else-not-is_kept_whole+then-to-from}

pub returns-then-not-is_kept_whole : goal.returns-then-not-is_kept_whole
returns-then-not-is_kept_whole c =
    let len = length c.args.bytes.now in
    let kept : len ≤ 4 → c.args.place % 512 + len ≤ 512 → c.if-bytes-le4.is_kept_whole ≡ true = λ short sector.
    elim c.if-bytes-le4.branch [
      | then-bytes-le4 w ↦ grind (arith, nat_tests)
      | else-bytes-le4 w ↦ grind (arith, nat_tests)
    ] in
    let all : len ≤ 4 → c.args.place % 512 + len ≤ 512 → c.min-to.result - c.min-from.result ≡ len = λ short sector.
    let whole = kept short sector in
    elim c.then-not-is_kept_whole.branch [
      | then-not-is_kept_whole-via-then-not-is_kept_whole w ↦ grind (arith, nat_tests)
      | then-not-is_kept_whole-via-else-not-is_kept_whole+then-to-from w ↦ grind (arith, nat_tests)
    ] in
    cut_torn c.args.place c.min-from.result c.min-to.result c.args.bytes.now c.args.image.now c.copy_from_slice.new.self
    (omega (arith, c.min-from.ensures)) (omega (arith, c.min-to.ensures)) c.requires all c.copy_from_slice.ensures.after
