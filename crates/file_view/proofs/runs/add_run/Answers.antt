use Rattle.std.proofs.Common.{◌≡◌, ◌∙◌, ℕ, List, ◌++◌, length, take, drop, ap, arith}
use Rattle.std.proofs.Math.Seq.{take-append_seam}
use Rattle.view_model.specs.declared.Line.{Line}
use Rattle.file_view.specs.Runs.{with_last}
use Rattle.file_view.proofs.Growing.{run_added}
use Rattle.file_view.proofs.runs.add_run.Goals as goal

pub returns : goal.returns
returns g c = λ minutes is.
    let new = c.stretch.new.lines in
    let rest = drop (length new) c.add_minute.new.lines.items in
    let long : c.add_minute.new.lines.len ≡ length new = omega (arith, c.as_mut_slice.ensures.len, c.stretch.auto.lines) in
    ap (λ (n : ℕ). take n (new ++ rest)) long
    ∙ take-append_seam new rest
    ∙ c.stretch.ensures
    ∙ ap (λ (l : List (Line _)). with_last c.args.run.last l) (c.as_mut_slice.ensures.value ∙ c.in_ok-add_minute.ensures minutes is)
    ∙ run_added g.T.Shown.same g.met.T.Shown.exact minutes c.args.run c.requires.run c.requires.same
