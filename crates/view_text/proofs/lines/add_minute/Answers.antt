use Rattle.std.proofs.Common.{◌≡◌, ◌∙◌, sym, ap, ℕ, List, [], ◌∷◌, ◌++◌, length, take, drop, arith}
use Rattle.std.proofs.Math.Seq.{take-append_seam}
use Rattle.view_model.specs.declared.Line.{Line}
use Rattle.view_text.specs.Growing.{with_more, line_at}
use Rattle.view_text.proofs.More.{lines_of-more}
use Rattle.view_text.proofs.lines.add_minute.Goals as goal

pub returns-then-has_added : goal.returns-then-has_added
returns-then-has_added g c = λ minutes is.
    let new = c.has_added.new.lines in
    let rest = drop (length new) c.args.lines.now.items in
    let long : c.args.lines.now.len ≡ length new = omega (arith, c.as_mut_slice.ensures.len, c.has_added.auto.lines) in
    ap (λ (n : ℕ). take n (new ++ rest)) long
    ∙ take-append_seam new rest
    ∙ c.if-has_added.ensures.added
    ∙ ap (λ (ls : List (Line _)). with_more g.T.Shown.same ls c.args.minute) (c.as_mut_slice.ensures.value ∙ is)
    ∙ sym (lines_of-more g.T.Shown.same g.met.T.Shown.exact minutes c.args.minute)

pub returns : goal.returns
returns g c = λ minutes is.
    let new = c.has_added.new.lines in
    let rest = drop (length new) c.args.lines.now.items in
    let long : c.args.lines.now.len ≡ length new = omega (arith, c.as_mut_slice.ensures.len, c.has_added.auto.lines) in
    c.in_ok-push.ensures.items
    ∙ ap (λ (ls : List (Line _)). ls ++ line_at c.args.minute ∷ []) (ap (λ (n : ℕ). take n (new ++ rest)) long ∙ take-append_seam new rest)
    ∙ sym c.if-has_added.ensures.apart
    ∙ ap (λ (ls : List (Line _)). with_more g.T.Shown.same ls c.args.minute) (c.as_mut_slice.ensures.value ∙ is)
    ∙ sym (lines_of-more g.T.Shown.same g.met.T.Shown.exact minutes c.args.minute)
