use Rattle.card_string.proofs.Images.{each_keeping}
use Rattle.card_string.proofs.each.a_keep_keeps_each_image.Goals as goal

pub returns : goal.returns
returns g c = λ s image h done es hands e odometer n next began sound start first follow after may leaves each.
    each_keeping s image start began (g.C.Chip.state c.args.before.now) (g.D.Chip.state c.args.after.now) (g.met.C.Chip.coherent c.args.before.now) first sound h done es hands e odometer n next follow after may leaves each
