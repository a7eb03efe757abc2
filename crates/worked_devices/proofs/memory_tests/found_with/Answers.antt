use Rattle.std.proofs.Common.{arith}
use Rattle.tach_media.proofs.Ranges.{lies_part}
use Rattle.worked_devices.proofs.memory_tests.found_with.Goals as goal
use Rattle.unit_model.specs.declared.layout.TheConstants.{IMAGE_SIZE}

pub write_at-requires-clause-writable : goal.write_at-requires-clause-writable
write_at-requires-clause-writable g c = lies_part _ 0 IMAGE_SIZE _ _ (omega arith) (omega arith) c.requires.unit.writable

pub write_at-requires-2-clause-writable : goal.write_at-requires-2-clause-writable
write_at-requires-2-clause-writable g c = lies_part _ 0 IMAGE_SIZE _ _ (omega arith) (omega arith) c.found.ensures.writable
