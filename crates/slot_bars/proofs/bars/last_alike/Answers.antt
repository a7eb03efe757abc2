use Rattle.std.proofs.Common.{◌≡◌, ◌∙◌, ◌||◌, not, Bool, true, refl, ap, sym, arith}
use Rattle.view_model.specs.declared.State.{State}
use Rattle.slot_bars.specs.Seeing.{state_in, is_in_gap}
use Rattle.slot_bars.proofs.bars.last_alike.Goals as goal

pub returns-then-state-clause-alike : goal.returns-then-state-clause-alike
returns-then-state-clause-alike c = λ m low high.
    let there : (state_in c.args.slot c.args.line.shown).present ≡ true = ap (λ (s : State). s.present) (sym c.state_in-state.ensures) ∙ c.if-state.true in
    rw there refl

pub returns-clause-alike : goal.returns-clause-alike
returns-clause-alike c = λ m low high.
    ap (λ (inside : Bool). (state_in c.args.slot c.args.line.shown).present || not inside) (c.last_alike-last.ensures.alike m low (omega (arith, high)))
