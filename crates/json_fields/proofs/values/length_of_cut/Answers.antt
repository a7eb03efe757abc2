use Rattle.std.proofs.Common.{◌∙◌, ◌≤◌, ℕ, ◌+◌, ◌<◌, take, get_or, length, ap, subst, sym, arith}
use Rattle.std.proofs.lemmas.List.{take_all}
use Rattle.json_fields.specs.Texts.{cut}
use Rattle.json_fields.proofs.Cutting.{cut-more, end-within}
use Rattle.json_fields.proofs.values.length_of_cut.Goals as goal

pub loop-i-preserved : goal.loop-i-preserved
loop-i-preserved c =
    let bytes = c.args.bytes.now in
    let i = c.loop-i.i in
    let end = c.loop-i.end in
    let lt : i < length bytes = omega arith in (
      subst (λ (n : ℕ). n ≤ i + 1) (sym c.end_after-end.ensures) (end-within (get_or bytes i 0) i end c.loop-i.invariant.0),
      cut-more bytes i end lt c.loop-i.invariant.1 ∙ ap (λ (n : ℕ). take n bytes) (sym c.end_after-end.ensures),
    )

pub returns-clause-cut : goal.returns-clause-cut
returns-clause-cut c = sym c.loop-i.invariant.1 ∙ ap cut (take_all c.loop-i.i c.args.bytes.now (omega arith))
