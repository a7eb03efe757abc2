use Rattle.run_promise.proofs.End.{lit-carried}
use Rattle.run_promise.specs.Between.{devices}
use Rattle.run_promise.proofs.rule_laws.what_is_lit_is_carried.Goals as goal

pub returns : goal.returns
returns g c = λ f w lit. lit-carried f w (devices (g.M.Medium.state c.args.unit.now) (g.C.Chip.state c.args.card_a.now) (g.D.Chip.state c.args.card_b.now)) lit
