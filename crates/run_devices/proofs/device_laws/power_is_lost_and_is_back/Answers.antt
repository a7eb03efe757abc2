use Rattle.device_calls.specs.trace_model.declared.Card.{Card}
use Rattle.device_calls.specs.trace_model.declared.Card.TheVariants.{A, B}
use Rattle.tach_media.specs.Medium.{State, IsCoherent}
use Rattle.device_calls.specs.unit_rule.Safe.{card_of}
use Rattle.run_promise.specs.Between.{devices}
use Rattle.run_devices.proofs.Parts.{power-lost}
use Rattle.run_devices.proofs.Power.{found-powerless}
use Rattle.run_devices.proofs.device_laws.power_is_lost_and_is_back.Goals as goal

wholes : (U X Y : State) → IsCoherent X → IsCoherent Y → (c : Card) → IsCoherent (card_of (devices U X Y) c)
wholes U X Y a b A = a
wholes U X Y a b B = b

pub returns-clause-lost : goal.returns-clause-lost
returns-clause-lost g c = λ f w cards found p. power-lost f w cards _ found p

pub returns-clause-back : goal.returns-clause-back
returns-clause-back g c = λ f w cards x found run works is p.
    found-powerless f w (devices (g.M.Medium.state c.args.before.now) (g.C.Chip.state c.args.card_a.now) (g.D.Chip.state c.args.card_b.now)) (g.N.Medium.state c.args.after.now) found.two (g.met.M.Medium.coherent c.args.before.now) (g.met.N.Medium.coherent c.args.after.now)
    (wholes (g.M.Medium.state c.args.before.now) (g.C.Chip.state c.args.card_a.now) (g.D.Chip.state c.args.card_b.now) (g.met.C.Chip.coherent c.args.card_a.now) (g.met.D.Chip.coherent c.args.card_b.now)) p run works x is
