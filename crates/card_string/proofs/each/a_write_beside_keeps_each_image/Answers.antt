use Rattle.card_string.proofs.Images.{each_beside, each_read, each_brought}
use Rattle.card_string.proofs.each.a_write_beside_keeps_each_image.Goals as goal

pub returns-clause-beside : goal.returns-clause-beside
returns-clause-beside g c = λ app image h brought n next began sound start first le leaves each.
    each_beside app sound image start h brought n next began le (g.C.Chip.state c.args.before.now) (g.D.Chip.state c.args.after.now) (g.met.C.Chip.coherent c.args.before.now) first each leaves

pub returns-clause-read : goal.returns-clause-read
returns-clause-read g c = λ app image h brought n next began sound start first le leaves each.
    each_read app sound image start h brought n next began le (g.C.Chip.state c.args.before.now) (g.D.Chip.state c.args.after.now) (g.met.C.Chip.coherent c.args.before.now) first each leaves

pub returns-clause-brought : goal.returns-clause-brought
returns-clause-brought g c = λ app image h brought es m n next began follow after late each.
    each_brought app image brought es m n next began follow after (g.C.Chip.state c.args.before.now) late h each
