use Rattle.sector_medium.proofs.mem_disk.MemDiskDisk.holds_bytes.Goals as goal

pub returns : goal.returns
returns c = record {
  told = λ x is. absurd (cc);
  now = λ x left. absurd left;
  since = λ t x left. absurd left;
}
