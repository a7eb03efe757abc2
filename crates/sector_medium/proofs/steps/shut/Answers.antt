use Rattle.std.proofs.Common.{refl}
use Rattle.tach_media.proofs.Runs.{on_ok}
use Rattle.sector_medium.proofs.Moves.{wrote, wrote_at, shut_reads, shut_shuts}
use Rattle.sector_medium.proofs.steps.shut.Goals as goal

pub returns-clause-reads : goal.returns-clause-reads
returns-clause-reads g c =
    let e = c.write_at.ensures in
    shut_reads c.args.size c.requires.room (g.met.D.Disk.coherent c.args.disk.now) (wrote_at c.place_behind.ensures refl (wrote c.write_at.result e.written e.moments e.clock e.cause)) c.requires.done

pub returns-clause-shut : goal.returns-clause-shut
returns-clause-shut g c =
    let e = c.write_at.ensures in
    on_ok c.write_at.result (shut_shuts c.args.size c.requires.room (g.met.D.Disk.coherent c.args.disk.now) (wrote_at c.place_behind.ensures refl (wrote c.write_at.result e.written e.moments e.clock e.cause)))
