use Rattle.std.proofs.Common.{◌+◌, ◌*◌, ◌∙◌, ap, arith}
use Rattle.unit_memory.specs.Scans.{scan_from}
use Rattle.unit_memory.proofs.Heads.{block_words}
use Rattle.unit_memory.proofs.Told.{one_told}
use Rattle.unit_memory.proofs.words.scan_block.Goals as goal

pub returns-clause-scan : goal.returns-clause-scan
returns-clause-scan g c =
    one_told (g.M.Medium.state c.args.unit.now).image _ c.in_ok-read_at.ensures.bytes (λ x read.
    c.scan_words.ensures.scan ∙ ap (scan_from c.args.kept c.args.base c.args.nth c.args.start) (block_words x c.read_at.new.out (c.args.base + 2 * c.args.nth) 480 c.args.count read (omega arith)))
