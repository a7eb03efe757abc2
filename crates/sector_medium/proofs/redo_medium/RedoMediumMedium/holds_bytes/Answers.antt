use Rattle.sector_medium.specs.Recovered.{on_disk_bytes}
use Rattle.sector_medium.proofs.redo_medium.RedoMediumMedium.holds_bytes.Goals as goal

pub returns : goal.returns
returns g c = let h = c.holds_bytes.ensures in on_disk_bytes c.args.self.now.size (g.D.Disk.state c.args.self.now.disk) (record { told = h.told; now = h.now; since = h.since })
