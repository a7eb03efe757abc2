use Rattle.std.proofs.Common.{◌≡◌, ◌≤◌, ◌+◌, Ok}
use Rattle.unit_model.specs.Image.{words_at}
use Rattle.unit_memory.specs.Scans.{scan_from}
use Rattle.unit_memory.proofs.words.scan_words.Given as goal

abbrev pub invariant-loop-more : goal.invariant-loop-more
invariant-loop-more l = record {
  few : l.scan.count ≤ l.nth + l.more;
  scanned : scan_from l.kept l.base l.nth l.fn.start (words_at l.bytes 0 l.more) ≡ Ok l.scan;
}
