-- What stands under a disk that is a file.
use Rattle.std.specs.Prelude.{Option, Some, None}
use Rattle.std.specs.declared.fs.locks.TryLockError.{TryLockError}
use Rattle.std.specs.declared.fs.locks.TryLockError.TheVariants.{WouldBlock, Error}
use Rattle.sector_medium.specs.declared.file.Missing.{Missing}
use Rattle.sector_medium.specs.declared.file.Missing.TheVariants.{Locks}
use Rattle.sector_medium.specs.declared.file.Unreached.{Unreached}
use Rattle.sector_medium.specs.declared.file.Unreached.TheVariants as unreached
use Rattle.sector_medium.specs.declared.file.Backing.{Backing}
use Rattle.sector_medium.specs.declared.file.Backing.TheVariants.{Unopened, Open, Lost, Lacking}

-- what the file or its file system lacks, where a call has failed for that
abbrev pub missing_in : Backing → Option Missing
missing_in Unopened = None
missing_in (Open file) = None
missing_in Lost = None
missing_in (Lacking missing) = Some missing

-- why a lock was not had: somebody else has it, or the file system has none
abbrev pub unlocked : TryLockError → Unreached
unlocked WouldBlock = unreached.Refused
unlocked (Error error) = unreached.Lacking Locks
