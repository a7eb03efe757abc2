use Rattle.unit_rule.proofs.Marking.{holds-started}
use Rattle.unit_rule.proofs.laws.an_image_that_decodes_is_a_start.Goals as goal

pub returns : goal.returns
returns g c = λ x number_a number_b due since decodes late. holds-started (g.M.Medium.state c.args.unit.now) x number_a number_b due (g.met.M.Medium.coherent c.args.unit.now) since decodes late
