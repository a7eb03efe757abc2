use Rattle.std.proofs.Common.{refl, drop, arith, length-drop}
use Rattle.std.proofs.lemmas.List.{take_all}
use Rattle.tach_media.proofs.Runs.{on_ok}
use Rattle.sector_medium.proofs.Moves.{wrote, wrote_at, behind_reads, behind_done}
use Rattle.sector_medium.proofs.steps.behind.Goals as goal

pub returns-clause-reads : goal.returns-clause-reads
returns-clause-reads g c =
    let e = c.write_at.ensures in
    behind_reads c.args.size c.requires.room (g.met.D.Disk.coherent c.args.disk.now) c.args.place c.args.bytes.now c.told-bytes c.requires.around (wrote_at refl (take_all 3 (drop 3 c.args.bytes.now) (omega (arith, c.told-bytes, length-drop 3 c.args.bytes.now))) (wrote c.write_at.result e.written e.moments e.clock e.cause)) c.requires.half

pub returns-clause-done : goal.returns-clause-done
returns-clause-done g c =
    let e = c.write_at.ensures in
    on_ok c.write_at.result (behind_done c.args.size c.requires.room (g.met.D.Disk.coherent c.args.disk.now) c.args.place c.args.bytes.now (wrote_at refl (take_all 3 (drop 3 c.args.bytes.now) (omega (arith, c.told-bytes, length-drop 3 c.args.bytes.now))) (wrote c.write_at.result e.written e.moments e.clock e.cause)) c.requires.half)
