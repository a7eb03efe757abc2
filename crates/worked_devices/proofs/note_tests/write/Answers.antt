use Rattle.std.proofs.Common.{arith}
use Rattle.tach_media.proofs.Ranges.{lies_part}
use Rattle.worked_devices.proofs.note_tests.write.Goals as goal

pub write_at-requires-clause-writable : goal.write_at-requires-clause-writable
write_at-requires-clause-writable g c = lies_part _ 0 2485808 _ _ (omega arith) (omega (arith, c.requires.inside)) c.requires.unit.writable
