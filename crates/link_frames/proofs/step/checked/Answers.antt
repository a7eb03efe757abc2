use Rattle.std.proofs.Common.{ℕ, Bool, ◌&&◌, Option, sym, ◌∙◌, ap}
use Rattle.std.specs.Prelude.{is_none}
use Rattle.std.proofs.Math.Bool.{and-true, and-false}
use Rattle.link_frames.specs.Steps.{state_of, performed, asks, decided}
use Rattle.link_frames.proofs.Checking.{decided_is, all_is}
use Rattle.link_frames.proofs.step.checked.Goals as goal

pub returns-in-Some-clause-performs : goal.returns-in-Some-clause-performs
returns-in-Some-clause-performs c = λ messages.
    c.refused.ensures.performs messages
    ∙ ap (λ (o : Option ℕ). decided (state_of c.args.standing) c.args.service o (performed messages c.args.step)) (sym c.in-Some.is ∙ c.failing.ensures)
    ∙ sym (decided_is (state_of c.args.standing) c.args.service (performed messages c.args.step) c.args.checks.now)

pub returns-in-Some-clause-asks : goal.returns-in-Some-clause-asks
returns-in-Some-clause-asks c =
    c.refused.ensures.asks ∙ sym (and-false (asks c.args.step))
    ∙ ap (λ (b : Bool). asks c.args.step && b) (sym (all_is c.args.checks.now ∙ ap is_none (sym c.failing.ensures ∙ c.in-Some.is)))

pub returns-clause-performs : goal.returns-clause-performs
returns-clause-performs c = λ messages.
    ap (λ (o : Option ℕ). decided (state_of c.args.standing) c.args.service o (performed messages c.args.step)) (sym c.in_default.is ∙ c.failing.ensures)
    ∙ sym (decided_is (state_of c.args.standing) c.args.service (performed messages c.args.step) c.args.checks.now)

pub returns-clause-asks : goal.returns-clause-asks
returns-clause-asks c =
    sym (and-true (asks c.args.step)) ∙ ap (λ (b : Bool). asks c.args.step && b) (sym (all_is c.args.checks.now ∙ ap is_none (sym c.failing.ensures ∙ c.in_default.is)))
