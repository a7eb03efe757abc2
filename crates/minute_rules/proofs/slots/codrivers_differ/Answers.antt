use Rattle.std.proofs.lemmas.Bool.{OnFalse_at}
use Rattle.minute_rules.proofs.Parts.{same_codriver}
use Rattle.minute_rules.proofs.slots.codrivers_differ.Goals as goal

pub returns : goal.returns
returns c =
    same_codriver c.args.one c.args.other
    (OnFalse_at c.if-current.false c.picks_differ-current.ensures)
    (OnFalse_at c.if-picked.false c.selections_differ-picked.ensures)
