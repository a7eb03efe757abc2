use Rattle.std.proofs.Common.{arith}
use Rattle.std.proofs.lemmas.Bool.{OnFalse_at}
use Rattle.minute_rules.proofs.Parts.{same_tally}
use Rattle.minute_rules.proofs.tally.tallies_differ.Goals as goal

pub returns : goal.returns
returns c =
    same_tally c.args.one c.args.other (OnFalse_at c.if-bests.false c.acts_differ-bests.ensures) (omega arith) (OnFalse_at c.if-goings.false c.acts_differ-goings.ensures) (omega arith)
