use Rattle.run_course.specs.trace_model.declared.Card.{Card}
use Rattle.run_course.specs.trace_model.declared.Card.TheVariants.{A, B}
use Rattle.tach_media.specs.Medium.{State, IsCoherent}
use Rattle.unit_rule.specs.safety_model.Safe.{card_of}
use Rattle.run_promise.specs.Between.{devices}
use Rattle.run_promise.proofs.RecordEnds.{ends-run}
use Rattle.run_promise.proofs.record_laws.what_is_recorded_is_promised.Goals as goal

each-whole : (unit a b : State) → IsCoherent a → IsCoherent b → (c : Card) → IsCoherent (card_of (devices unit a b) c)
each-whole unit a b first second A = first
each-whole unit a b first second B = second

pub returns : goal.returns
returns g z = λ o done p t marks stops w decodes found same recorded carried book told beside hands.
    let unit = g.N.Medium.state z.args.unit.now in
    let a = g.E.Chip.state z.args.card_a.now in
    let b = g.F.Chip.state z.args.card_b.now in
    ends-run o done p t marks stops w (devices (g.M.Medium.state z.args.old_unit.now) (g.C.Chip.state z.args.old_a.now) (g.D.Chip.state z.args.old_b.now)) (devices unit a b) recorded found carried book told beside hands
    (g.met.N.Medium.coherent z.args.unit.now) (each-whole unit a b (g.met.E.Chip.coherent z.args.card_a.now) (g.met.F.Chip.coherent z.args.card_b.now)) decodes same
