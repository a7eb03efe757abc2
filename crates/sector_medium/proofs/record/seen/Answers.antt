use Rattle.sector_medium.proofs.Lifts.{lift_reads, room_stays}
use Rattle.sector_medium.proofs.record.seen.Goals as goal

pub returns-in-Unknown-clause-reads : goal.returns-in-Unknown-clause-reads
returns-in-Unknown-clause-reads g c = lift_reads c.args.size (g.met.D.Disk.coherent c.args.disk.now) c.look.ensures.reads

pub returns-in-Unknown-clause-room : goal.returns-in-Unknown-clause-room
returns-in-Unknown-clause-room g c = room_stays c.requires.room c.look.ensures.reads.leaves
