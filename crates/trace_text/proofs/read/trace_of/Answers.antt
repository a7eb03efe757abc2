use Rattle.std.proofs.Common.{ℕ, List, ap, sym, arith, append_assoc, ◌∙◌, ◌++◌, ◌∷◌, []}
use Rattle.std.proofs.lemmas.Result.{err_from_is_err_and}
use Rattle.trace_text.proofs.read.trace_of.Goals as goal

pub returns-in_err-rest : goal.returns-in_err-rest
returns-in_err-rest c =
    let p = err_from_is_err_and c.from_residual.result c.from_residual.ensures.1 in
    let v = c.loop-rest.invariant in
    rw (p.1, p.2) (rw (v.lines.1, ← v.form) (c.in_err-rest.ensures.fault v.lines.0 v.lines.2))

pub loop-rest-preserved : goal.loop-rest-preserved
loop-rest-preserved c =
    let v = c.loop-rest.invariant in
    let r = c.in_ok-rest.ensures.ok in
    let few = v.few in
    let shorter = c.in_ok-rest.ensures.shorter in
    let lines = c.in_ok-rest.ensures.lines in
    record {
      lines = (v.lines.0 ++ r.0 ∷ [], v.lines.1 ∙ ap (λ (ls : List (List ℕ)). v.lines.0 ++ ls) r.1 ∙ sym (append_assoc v.lines.0 (r.0 ∷ []) _), r.2 v.lines.0 v.lines.2);
      few = omega (arith, few, shorter, lines);
      form = c.in_ok-rest.ensures.form ∙ v.form;
    }
