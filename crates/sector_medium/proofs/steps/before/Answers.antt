use Rattle.tach_media.proofs.Runs.{on_ok}
use Rattle.sector_medium.proofs.Moves.{wrote, before_reads, before_half}
use Rattle.sector_medium.proofs.steps.before.Goals as goal

pub returns-clause-reads : goal.returns-clause-reads
returns-clause-reads g c =
    let e = c.write_at.ensures in
    before_reads c.args.size c.requires.room (g.met.D.Disk.coherent c.args.disk.now) c.args.place c.args.bytes.now c.told-bytes c.requires.around (wrote c.write_at.result e.written e.moments e.clock e.cause) c.requires.«open»

pub returns-clause-half : goal.returns-clause-half
returns-clause-half g c =
    let e = c.write_at.ensures in
    on_ok c.write_at.result (before_half c.args.size c.requires.room (g.met.D.Disk.coherent c.args.disk.now) c.args.place c.args.bytes.now (wrote c.write_at.result e.written e.moments e.clock e.cause) c.requires.«open»)
