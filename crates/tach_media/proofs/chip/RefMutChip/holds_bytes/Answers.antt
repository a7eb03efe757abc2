use Rattle.tach_media.proofs.chip.RefMutChip.holds_bytes.Goals as goal

pub returns : goal.returns
returns g c = let h = c.holds_bytes.ensures in record { told = h.told; now = h.now; since = h.since }
