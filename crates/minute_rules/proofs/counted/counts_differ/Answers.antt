use Rattle.std.proofs.Common.{arith}
use Rattle.std.proofs.lemmas.Bool.{OnFalse_at}
use Rattle.minute_rules.proofs.Parts.{same_counts}
use Rattle.minute_rules.proofs.counted.counts_differ.Goals as goal

pub returns : goal.returns
returns c =
    same_counts c.args.one c.args.other
    (OnFalse_at c.if-drivers.false c.tallies_differ-drivers.ensures)
    (omega arith)
    (OnFalse_at c.if-drives.false c.flags_differ-drives.ensures)
    (OnFalse_at c.if-codrivers.false c.tallies_differ-codrivers.ensures)
    (omega arith)
