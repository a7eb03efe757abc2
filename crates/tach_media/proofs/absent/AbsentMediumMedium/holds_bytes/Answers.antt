use Rattle.tach_media.proofs.absent.AbsentMediumMedium.holds_bytes.Goals as goal

pub returns : goal.returns
returns c = record {
  told = λ x is. absurd (cc);
  now = λ x left. absurd left;
  since = λ t x left. absurd left;
}
