use Rattle.std.proofs.Common.{◌≡◌, ◌∙◌, ◌-◌, IfSome, ap, inl, refl, arith}
use Rattle.unit_memory.proofs.Told.{carried, three_told}
use Rattle.device_state.specs.Units.{date_at}
use Rattle.device_state.proofs.ToldUnits.{days-made}
use Rattle.device_state.proofs.unit.read_days.Goals as goal

pub returns-clause-days : goal.returns-clause-days
returns-clause-days g c =
    let image = (g.M.Medium.state c.args.unit.now).image in
    let n = c.days-count.result in
    let sub : c.saturating_sub.result ≡ n - 1 = omega arith in
    let same = c.in_ok-first.ensures.reads.same refl in
    let last : IfSome image (λ x. c.in_ok-last.last ≡ date_at x c.saturating_sub.result) = carried (λ x. c.in_ok-last.last ≡ date_at x c.saturating_sub.result) same c.in_ok-last.ensures.date in
    three_told image _ c.requires.found c.in_ok-first.ensures.date last (λ x found first last.
    days-made x n c.in_ok-first.first c.in_ok-last.last (c.days-count.ensures.recorded x (inl found)) first (last ∙ ap (date_at x) sub))
