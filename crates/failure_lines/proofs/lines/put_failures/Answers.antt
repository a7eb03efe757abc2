use Rattle.std.proofs.Common.{◌∙◌, ℕ, List, ◌++◌, refl, ap, subst}
use Rattle.std.specs.Prelude.{count_by}
use Rattle.std.specs.Io.KnownBytes.{Appends}
use Rattle.std.proofs.KnownBytes.{Appends-trans}
use Rattle.failure_lines.specs.Failures.{last_line, is_failed}
use Rattle.failure_lines.proofs.lines.put_failures.Goals as goal

pub returns-clause-told : goal.returns-clause-told
returns-clause-told g c =
    let e = c.in_ok-failed.ensures.told in
    let last : List ℕ = last_line (count_by is_failed c.args.breaks.now.items) in
    let behind : Appends (g.K.Sink.held c.put_lines.new.sink) (g.K.Sink.held c.put_all.new.sink) (last_line (count_by is_failed c.args.breaks.now.items)) =
    subst (λ (l : List ℕ). Appends (g.K.Sink.held c.put_lines.new.sink) (g.K.Sink.held c.put_all.new.sink) l) (c.as_slice.ensures.value ∙ c.last_line.ensures ∙ ap last_line e.0) c.in_ok-put_all.ensures.ok in (
      e.1.0 ++ last,
      (e.1.0, e.1.1, refl),
      Appends-trans (g.K.Sink.held c.args.sink.now) (g.K.Sink.held c.put_lines.new.sink) (g.K.Sink.held c.put_all.new.sink) e.1.0 last e.1.2 behind,
    )
