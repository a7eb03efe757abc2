use Rattle.run_devices.proofs.Strung.{strung, held-out}
use Rattle.run_devices.proofs.string_laws.a_string_that_each_image_holds_is_strung.Goals as goal

pub returns-clause-strung : goal.returns-clause-strung
returns-clause-strung g w = λ f hd c b z s. strung f hd c b z (g.M.Medium.state w.args.unit.now) (g.C.Chip.state w.args.card.now) s

pub returns-clause-out : goal.returns-clause-out
returns-clause-out g w = λ f hd c b z u on s. held-out f hd c b z (g.M.Medium.state w.args.unit.now) (g.C.Chip.state w.args.card.now) s u on
