use Rattle.std.proofs.Common.{rules, ◌≡◌, true, is_err}
use Rattle.tach_media.proofs.Runs.{reads_then}
use Rattle.sector_medium.proofs.Lifts.{reads_as}
use Rattle.sector_medium.proofs.steps.finish.Goals as goal

pub returns-in_err-behind-clause-reads : goal.returns-in_err-behind-clause-reads
returns-in_err-behind-clause-reads g c =
    let failed : is_err c.from_residual-in_err-behind.result ≡ true = search rules in
    reads_as failed (reads_then c.in_ok-before.ensures.reads c.in_err-behind.ensures.reads)

pub returns-clause-reads : goal.returns-clause-reads
returns-clause-reads g c = reads_then c.in_ok-before.ensures.reads (reads_then c.in_ok-behind.ensures.reads c.shut.ensures.reads)
