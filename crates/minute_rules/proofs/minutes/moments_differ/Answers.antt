use Rattle.std.proofs.Common.{◌≡◌, ◌∙◌, sym, arith}
use Rattle.std.proofs.lemmas.Bool.{OnFalse_at}
use Rattle.minute_rules.proofs.Parts.{same_rule, same_moment}
use Rattle.minute_rules.proofs.minutes.moments_differ.Goals as goal

pub returns : goal.returns
returns c =
    let ahead : c.ahead-first.result ≡ c.ahead-second.result = omega arith in
    same_moment c.args.one c.args.other
    (same_rule c.args.one.rule c.args.other.rule (sym c.ahead-first.ensures.value ∙ ahead ∙ c.ahead-second.ensures.value))
    (omega arith)
    (omega arith)
    (OnFalse_at c.if-counts.false c.counts_differ-counts.ensures)
    (OnFalse_at c.if-drivers.false c.drivers_differ-drivers.ensures)
    (OnFalse_at c.if-codrivers.false c.codrivers_differ-codrivers.ensures)
