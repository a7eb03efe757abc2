use Rattle.sector_medium.proofs.Untouched.{untouched}
use Rattle.tacho.proofs.file.Goals as goal

pub returns : goal.returns
returns c = rw (c.new.ensures.disk, c.new.ensures.size) (untouched c.args.size _ _ c.disk.ensures.untouched)
