use Rattle.run_course.specs.trace_model.declared.Card.{Card}
use Rattle.run_course.specs.trace_model.declared.Card.TheVariants.{A, B}
use Rattle.tach_media.specs.Medium.{State, IsCoherent}
use Rattle.unit_rule.specs.Safe.{card_of}
use Rattle.run_promise.specs.Between.{devices}
use Rattle.run_promise.proofs.End.{safe-followed}
use Rattle.run_promise.proofs.rule_laws.what_is_carried_is_safe.Goals as goal

each-whole : (unit a b : State) → IsCoherent a → IsCoherent b → (c : Card) → IsCoherent (card_of (devices unit a b) c)
each-whole unit a b first second A = first
each-whole unit a b first second B = second

pub returns : goal.returns
returns g z = λ r f w from decodes order early found follows carried hands brought untouched.
    let unit = g.N.Medium.state z.args.unit.now in
    let a = g.E.Chip.state z.args.card_a.now in
    let b = g.F.Chip.state z.args.card_b.now in
    safe-followed r f w (devices (g.M.Medium.state z.args.old_unit.now) (g.C.Chip.state z.args.old_a.now) (g.D.Chip.state z.args.old_b.now)) (devices unit a b)
    (g.met.N.Medium.coherent z.args.unit.now) (each-whole unit a b (g.met.E.Chip.coherent z.args.card_a.now) (g.met.F.Chip.coherent z.args.card_b.now)) decodes from order early found follows carried hands brought untouched
