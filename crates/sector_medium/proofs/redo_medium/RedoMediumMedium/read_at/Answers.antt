use Rattle.std.proofs.Common.{rules, ◌≡◌, true, is_err}
use Rattle.tach_media.proofs.Runs.{reads_then}
use Rattle.sector_medium.proofs.Lifts.{reads_as}
use Rattle.sector_medium.proofs.redo_medium.RedoMediumMedium.read_at.Goals as goal

pub returns-in_err-read_over-clause-reads : goal.returns-in_err-read_over-clause-reads
returns-in_err-read_over-clause-reads g c =
    let failed : is_err c.from_residual-in_err-read_over.result ≡ true = search rules in
    reads_as failed (reads_then c.in_ok-found.ensures.reads c.in_err-read_over.ensures.reads)

pub returns-clause-reads : goal.returns-clause-reads
returns-clause-reads g c = reads_then c.in_ok-found.ensures.reads c.in_ok-read_over.ensures.reads
