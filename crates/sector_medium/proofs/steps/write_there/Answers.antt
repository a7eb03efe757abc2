use Rattle.std.proofs.Common.{arith}
use Rattle.tach_media.proofs.Runs.{on_ok}
use Rattle.sector_medium.specs.RedoLaws.{record_behind}
use Rattle.sector_medium.proofs.Lifts.{may_write}
use Rattle.sector_medium.proofs.Moves.{wrote, there_changes, there_shut}
use Rattle.sector_medium.proofs.steps.write_there.Goals as goal

pub write_at-requires-clause-inside : goal.write_at-requires-clause-inside
write_at-requires-clause-inside g c = omega (arith, c.requires.inside, c.requires.room.room, record_behind c.args.size)

pub write_at-requires-clause-writable : goal.write_at-requires-clause-writable
write_at-requires-clause-writable g c = may_write c.args.place _ c.requires.room (omega (arith, c.requires.inside, c.requires.room.room, record_behind c.args.size))

pub returns-clause-changes : goal.returns-clause-changes
returns-clause-changes g c =
    let e = c.write_at.ensures in
    there_changes c.args.size c.requires.room (g.met.D.Disk.coherent c.args.disk.now) c.args.place c.args.bytes.now (wrote c.write_at.result e.written e.moments e.clock e.cause) c.requires.whole c.requires.inside c.requires.shut

pub returns-clause-shut : goal.returns-clause-shut
returns-clause-shut g c =
    let e = c.write_at.ensures in
    on_ok c.write_at.result (there_shut c.args.size c.requires.room (g.met.D.Disk.coherent c.args.disk.now) c.args.place c.args.bytes.now (wrote c.write_at.result e.written e.moments e.clock e.cause) c.requires.inside c.requires.shut)
