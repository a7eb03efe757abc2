use Rattle.std.proofs.Common.{◌≡◌, ◌∙◌, false, sym}
use Rattle.trace_text.specs.Text.{counts}
use Rattle.trace_text.proofs.LinesRead.{read-skip}
use Rattle.trace_text.proofs.coming.Coming.take.Goals as goal

pub returns-then-not-is_counted-clause-ok : goal.returns-then-not-is_counted-clause-ok
returns-then-not-is_counted-clause-ok c = λ lines items is.
    let skipped : counts c.args.line.now ≡ false = sym c.is_counted.ensures ∙ c.if-not-is_counted.true in
    read-skip lines items c.args.line.now c.args.self.now is skipped
