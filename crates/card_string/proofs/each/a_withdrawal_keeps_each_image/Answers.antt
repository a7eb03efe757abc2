use Rattle.card_string.proofs.Images.{each_closing}
use Rattle.card_string.proofs.each.a_withdrawal_keeps_each_image.Goals as goal

pub returns : goal.returns
returns g c = λ s act image h done n m next began sound start first le lower may leaves each.
    each_closing s image start began (g.C.Chip.state c.args.before.now) (g.D.Chip.state c.args.after.now) (g.met.C.Chip.coherent c.args.before.now) first sound act h done n m next le lower may leaves each
