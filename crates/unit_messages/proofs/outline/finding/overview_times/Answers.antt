use Rattle.std.proofs.Common.{refl, inr, arith, rules}
use Rattle.std.specs.Prelude.{is_err}
use Rattle.unit_memory.proofs.Told.{told_all}
use Rattle.unit_messages.proofs.Calls.{no_call, any_failed}
use Rattle.unit_messages.proofs.Joints.{at_told}
use Rattle.unit_messages.proofs.Outlining.{times_none, times_some}
use Rattle.unit_messages.proofs.outline.finding.overview_times.Goals as goal

pub returns-then-days-eq0-clause-times : goal.returns-then-days-eq0-clause-times
returns-then-days-eq0-clause-times g c =
    told_all (g.M.Medium.state c.args.unit.now).image _ (λ x told.
    times_none c.args.journal.now c.last_kept-kept.ensures.shape x _ (at_told _ x told c.requires.decodes) (at_told _ x told c.requires.right) (omega (arith, c.days-days.ensures.days, c.if-days-eq0.true)) (omega (arith, c.last_kept-kept.ensures.kept)) refl refl)

pub returns-then-days-eq0-clause-reads : goal.returns-then-days-eq0-clause-reads
returns-then-days-eq0-clause-reads g c = no_call (g.M.Medium.state c.args.unit.now)

pub returns-in_err-oldest-clause-reads : goal.returns-in_err-oldest-clause-reads
returns-in_err-oldest-clause-reads g c = any_failed (is_err c.from_residual.result) (search rules) (inr c.in_err-oldest.ensures.reads)

pub returns-clause-times : goal.returns-clause-times
returns-clause-times g c =
    told_all (g.M.Medium.state c.args.unit.now).image _ (λ x told.
    let right = at_told _ x told c.requires.right in
    times_some c.args.journal.now c.last_kept-kept.ensures.shape x _ c.in_ok-oldest.oldest (at_told _ x told c.requires.decodes) right (at_told _ x told c.in_ok-oldest.ensures.day right)
    (omega (arith, c.last_kept-kept.ensures.kept)) refl (omega (arith, c.last_kept-kept.ensures.kept)))

pub returns-clause-reads : goal.returns-clause-reads
returns-clause-reads g c = inr c.in_ok-oldest.ensures.reads
