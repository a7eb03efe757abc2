use Rattle.tach_media.proofs.Runs.{from_reads, goes_same, reads_then}
use Rattle.sector_medium.proofs.Lifts.{read_change}
use Rattle.sector_medium.proofs.Known.{lift_ends}
use Rattle.sector_medium.proofs.redo_medium.RedoMediumMedium.write_at.Goals as goal

pub returns-in_err-found-clause-moments : goal.returns-in_err-found-clause-moments
returns-in_err-found-clause-moments g c = from_reads c.in_err-found.ensures.reads.leaves

pub returns-in_err-settle-clause-moments : goal.returns-in_err-settle-clause-moments
returns-in_err-settle-clause-moments g c = from_reads (reads_then c.in_ok-found.ensures.reads c.in_err-settle.ensures.reads).leaves

pub returns-in_err-store-clause-moments : goal.returns-in_err-store-clause-moments
returns-in_err-store-clause-moments g c = (read_change (reads_then c.in_ok-found.ensures.reads c.in_ok-settle.ensures.reads) c.in_err-store.ensures.changes).leaves

pub returns-clause-moments : goal.returns-clause-moments
returns-clause-moments g c =
    goes_same (read_change (reads_then c.in_ok-found.ensures.reads c.in_ok-settle.ensures.reads) c.in_ok-store.ensures.changes).leaves
    (lift_ends c.args.self.now.size (g.met.D.Disk.coherent c.store.new.disk) c.end_group.ensures).leaves
