use Rattle.sector_medium.proofs.file.FileDiskDisk.holds_bytes.Goals as goal

pub returns : goal.returns
returns g c = record {
  told = λ x is. absurd (cc);
  now = λ x left. absurd left;
  since = λ t x left. absurd left;
}
