use Rattle.tach_media.proofs.absent_chip.AbsentChipChip.holds_bytes.Goals as goal

pub returns : goal.returns
returns c = record {
  told = λ x is. absurd (cc);
  now = λ x left. absurd left;
  since = λ t x left. absurd left;
}
