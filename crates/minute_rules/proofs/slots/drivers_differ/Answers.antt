use Rattle.std.proofs.lemmas.Bool.{OnFalse_at}
use Rattle.minute_rules.proofs.Parts.{same_driver}
use Rattle.minute_rules.proofs.slots.drivers_differ.Goals as goal

pub returns : goal.returns
returns c =
    same_driver c.args.one c.args.other
    (OnFalse_at c.if-current.false c.picks_differ-current.ensures)
    (OnFalse_at c.if-waiting.false c.waits_differ-waiting.ensures)
    (OnFalse_at c.if-early.false c.selections_differ-early.ensures)
    (OnFalse_at c.if-picked.false c.selections_differ-picked.ensures)
