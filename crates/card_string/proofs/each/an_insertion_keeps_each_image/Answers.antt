use Rattle.card_string.proofs.Images.{each_inserting}
use Rattle.card_string.proofs.each.an_insertion_keeps_each_image.Goals as goal

pub returns : goal.returns
returns g c = λ app registration odometer now owed image h brought n next began sound start first le long are may leaves each.
    each_inserting app sound image start h brought n next began le (g.C.Chip.state c.args.before.now) (g.D.Chip.state c.args.after.now) (g.met.C.Chip.coherent c.args.before.now) first each registration odometer now owed long are may leaves
