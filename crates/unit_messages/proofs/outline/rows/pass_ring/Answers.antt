use Rattle.std.proofs.Common.{◌≡◌, ◌*◌, ◌<◌, ℕ, length, subst, sym, ap, ◌∙◌, inr, refl, arith, rules}
use Rattle.std.specs.Prelude.{is_err}
use Rattle.card_layout.specs.Fields.{joined}
use Rattle.tach_media.proofs.Runs.{both_told}
use Rattle.gated_ring.specs.Ring.{next, pointer, order}
use Rattle.gated_ring.proofs.Orders.{next_below}
use Rattle.unit_memory.proofs.Told.{told_all, carried}
use Rattle.unit_messages.specs.Windows.{passed}
use Rattle.unit_messages.specs.Chosen.{chosen_at, shape_of, ring_of, chosen_in_ring}
use Rattle.unit_messages.proofs.Calls.{no_call, any_then, any_failed}
use Rattle.unit_messages.proofs.Rings.{ring_is, ring_long, ring_passed}
use Rattle.unit_messages.proofs.outline.rows.pass_ring.Goals as goal

pub returns-then-over-clause-passed : goal.returns-then-over-clause-passed
returns-then-over-clause-passed g c =
    let e = c.args.entries.now in
    let place = c.args.place in
    let r = ring_of place e in
    told_all (g.M.Medium.state c.args.unit.now).image _ (λ x told low many.
    let below : next r (pointer r x) < e.count = next_below r (pointer r x) low in
    c.passes_over-over.ensures.over c.if-over.true (joined (chosen_in_ring place e x))
    (ring_long place e x c.requires.entries (omega (arith, c.requires.unit, (g.met.M.Medium.coherent c.args.unit.now).sized x told)) c.requires.pointer (omega (arith, below))
    ∙ ap (λ (n : ℕ). n * e.width) (sym many) ∙ sym c.bytes_of-len.ensures))

pub returns-then-over-clause-reads : goal.returns-then-over-clause-reads
returns-then-over-clause-reads g c = no_call (g.M.Medium.state c.args.unit.now)

pub returns-in_err-pointer-clause-reads : goal.returns-in_err-pointer-clause-reads
returns-in_err-pointer-clause-reads g c = any_failed (is_err c.from_residual.result) (search rules) (inr c.in_err-pointer.ensures.reads)

pub returns-in_err-pass_some_of-clause-reads : goal.returns-in_err-pass_some_of-clause-reads
returns-in_err-pass_some_of-clause-reads g c =
    any_failed (is_err c.from_residual-in_err-pass_some_of.result) (search rules) (any_then (inr c.in_ok-pointer.ensures.reads) c.in_err-pass_some_of.ensures.reads)

pub returns-clause-passed : goal.returns-clause-passed
returns-clause-passed g c =
    let e = c.args.entries.now in
    let place = c.args.place in
    let r = ring_of place e in
    let p = c.in_ok-pointer.pointer in
    let turn = c.turn_at-turn.result in
    both_told (g.M.Medium.state c.args.unit.now).image _ c.in_ok-pointer.ensures.value
    (carried (λ x. c.args.count ≡ length (chosen_at (shape_of e) e.choice x (order (shape_of e) turn)) → c.pass_some_of.new.window ≡ passed c.passes_over-over.new.self (joined (chosen_at (shape_of e) e.choice x (order (shape_of e) turn)))) (c.in_ok-pointer.ensures.reads.same refl) c.in_ok-pass_some_of.ensures.passed)
    (λ x told number after low many.
    let is : turn ≡ next r p = c.turn_at-turn.ensures.turn (subst (λ (n : ℕ). n < e.count) (sym number) low) in
    let round : c.args.count ≡ length (chosen_at (shape_of e) e.choice x (order (shape_of e) turn)) =
    many ∙ ap length (ring_is place e x c.requires.pointer) ∙ ap (λ (n : ℕ). length (chosen_at (shape_of e) e.choice x (order (shape_of e) n))) (sym (is ∙ ap (next r) number)) in
    ring_passed place e x c.pass_some_of.new.window c.passes_over-over.new.self c.args.window.now p turn c.requires.pointer number is (c.passes_over-over.ensures.same c.if-over.false) (after round))

pub returns-clause-reads : goal.returns-clause-reads
returns-clause-reads g c = any_then (inr c.in_ok-pointer.ensures.reads) c.in_ok-pass_some_of.ensures.reads
