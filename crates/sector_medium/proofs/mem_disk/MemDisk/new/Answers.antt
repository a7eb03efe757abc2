use Rattle.std.proofs.Common.{arith}
use Rattle.sector_medium.proofs.mem_disk.MemDisk.new.Goals as goal

pub overflow_cast-front : goal.overflow_cast-front
overflow_cast-front c = omega (arith, c.requires)
