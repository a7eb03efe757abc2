use Rattle.std.proofs.lemmas.Result.{err_from_is_err_and}
use Rattle.std.proofs.Common.{ap, subst, sym, arith, refl, inl, inr, Err}
use Rattle.tacho.specs.Outcomes.{IsEmpty}
use Rattle.trace_text.specs.declared.lines_trace.Form.TheVariants.{Whole}
use Rattle.tacho.proofs.EndLaws.{unread-judges}
use Rattle.tacho.proofs.Recordings.{reserved-empty, run-refusal, ends-unread, ends-short, ends-refused, ends-run}
use Rattle.tacho.proofs.UnitRuns.{refused-on-unit, unit-refused, unit-causes, unit-run}
use Rattle.tacho.proofs.CardRuns.{refused-when, refused-causes, cards-refused, cards-run}
use Rattle.tacho.proofs.record_command.record.Goals as goal

pub returns-in_err-trace-clause-ends : goal.returns-in_err-trace-clause-ends
returns-in_err-trace-clause-ends g c =
    let p = err_from_is_err_and c.from_residual.result c.from_residual.ensures.1 in
    let fault = c.in_err-trace.field-0.0 in
    let e = c.in_err-trace.ensures in
    rw (p.1, p.2) (ends-unread _ _ c.args.outcome.now fault (unread-judges Whole _ _ fault e.refused e.judged) c.requires.empty e.judged.reads (λ is. e.refused.read_fault (ap Err is)))

pub returns-in_err-reserved-clause-ends : goal.returns-in_err-reserved-clause-ends
returns-in_err-reserved-clause-ends g c =
    let p = err_from_is_err_and c.from_residual-in_err-reserved.result c.from_residual-in_err-reserved.ensures.1 in
    let e = c.in_ok-trace.ensures in
    rw (p.1, p.2) (ends-short _ _ c.args.outcome.now e.judged.finds_bad_line e.judged.finds_too_long c.requires.empty)

pub record_alone-requires : goal.record_alone-requires
record_alone-requires g c = record {
  well = c.in_ok-trace.ensures.read.well_formed;
  for_unit = c.is_for_unit.ensures.for_unit c.if-is_for_unit.true;
  reserved = c.in_ok-reserved.ensures;
  sized = c.requires.unit;
}

pub returns-in-Err-clause-ends : goal.returns-in-Err-clause-ends
returns-in-Err-clause-ends g c =
    let e = c.in_ok-trace.ensures in
    let f = c.in-Err.ensures in
    rw c.refusal_of_run.ensures
    (ends-refused _ _ _ _ e.judged.finds_bad_line e.judged.finds_too_long (run-refusal c.in-Err.fault)
    (inr (inl (unit-refused _ _ c.record_alone.new.outcome c.in_ok-trace.trace.start c.in_ok-trace.trace.items (g.met.U.Medium.coherent c.args.unit.now) (g.met.U.Medium.coherent c.record_alone.new.unit)
    (c.is_for_unit.ensures.for_unit c.if-is_for_unit.true) e.judged.reads (let last = e.read.well_formed.within.1 in omega (arith, last)) (let few = e.read.few in omega (arith, few)) c.in-Err.fault f.refusal.fault f.breakdowns.later f.breakdowns.broke f.goes.most
    (refused-on-unit c.in_ok-trace.trace.start c.in_ok-reserved.reserved c.record_alone.new.outcome _ _ c.in-Err.fault (reserved-empty c.in_ok-trace.trace.items c.in_ok-reserved.reserved c.in_ok-reserved.ensures) f.refusal.early)
    (λ x alone clock.
    let r = f.refusal.refused x alone clock (omega (arith, e.read.few)) in
    (r.0, r.1, subst IsEmpty (sym r.2) (reserved-empty c.in_ok-trace.trace.items c.in_ok-reserved.reserved c.in_ok-reserved.ensures)))))))

pub returns-then-is_for_unit-clause-ends : goal.returns-then-is_for_unit-clause-ends
returns-then-is_for_unit-clause-ends g c =
    let e = c.in_ok-trace.ensures in
    let f = c.in_default.ensures in
    ends-run _ _ c.record_alone.new.outcome c.print_outcome.result e.end e.judged.finds_bad_line e.judged.finds_too_long
    (λ fault ran rose. inr (inl (unit-run _ _ c.record_alone.new.outcome c.in_ok-trace.trace.start c.in_ok-trace.trace.items (c.is_for_unit.ensures.for_unit c.if-is_for_unit.true) e.judged.reads (let last = e.read.well_formed.within.1 in omega (arith, last)) (let few = e.read.few in omega (arith, few))
    (λ x alone clock cards. f.recorded cards x alone clock (omega (arith, e.read.few)))
    (λ x alone clock. f.causes x (g.C.Chip.state c.args.card_a.now).breakdowns (g.C.Chip.state c.args.card_b.now).breakdowns alone clock (omega (arith, e.read.few))) f.begun f.breakdowns.broke f.goes.most f.breakdowns.calm f.breakdowns.told f.breakdowns.later refl refl fault ran rose)))
    c.print_outcome.ensures.ok c.print_outcome.ensures.err c.print_outcome.ensures.cause

pub returns-in-Err-run_trace-clause-ends : goal.returns-in-Err-run_trace-clause-ends
returns-in-Err-run_trace-clause-ends g c =
    let e = c.in_ok-trace.ensures in
    let f = c.in-Err-run_trace.ensures in
    rw c.refusal_of_run-in-Err-run_trace.ensures
    (ends-refused _ _ _ _ e.judged.finds_bad_line e.judged.finds_too_long (run-refusal c.in-Err-run_trace.fault)
    (inr (inr (cards-refused _ _ c.run_trace.new.outcome c.in_ok-trace.trace.start c.in_ok-trace.trace.items (c.is_for_unit.ensures.card c.if-is_for_unit.false) f.goes.later f.breakdowns.broke f.goes.most (let last = e.read.well_formed.within.1 in omega (arith, last)) (let few = e.read.few in omega (arith, few)) e.judged.reads c.in-Err-run_trace.fault
    (refused-when c.in_ok-trace.trace.start c.in_ok-reserved.reserved c.run_trace.new.outcome _ _ _ _ _ _ c.in-Err-run_trace.fault (reserved-empty c.in_ok-trace.trace.items c.in_ok-reserved.reserved c.in_ok-reserved.ensures) f.refused)
    (λ x a b begins clocks.
    let h = f.fault x a b (record { begins = begins; time = clocks; few = omega (arith, e.read.few) }) in
    (h.0, subst IsEmpty (sym h.1) (reserved-empty c.in_ok-trace.trace.items c.in_ok-reserved.reserved c.in_ok-reserved.ensures)))))))

pub returns-clause-ends : goal.returns-clause-ends
returns-clause-ends g c =
    let e = c.in_ok-trace.ensures in
    let f = c.in_default-run_trace.ensures in
    ends-run _ _ c.run_trace.new.outcome c.print_outcome-2.result e.end e.judged.finds_bad_line e.judged.finds_too_long
    (λ fault ran rose. inr (inr (cards-run _ _ c.run_trace.new.outcome c.in_ok-trace.trace.start c.in_ok-trace.trace.items (c.is_for_unit.ensures.card c.if-is_for_unit.false) f.goes.later f.breakdowns.broke f.goes.most (let last = e.read.well_formed.within.1 in omega (arith, last)) (let few = e.read.few in omega (arith, few)) e.judged.reads
    (g.met.U.Medium.coherent c.run_trace.new.unit) (λ x a b begins clocks. (f.recorded x a b (record { begins = begins; time = clocks; few = omega (arith, e.read.few) })).ends) f.begun f.breakdowns.calm f.breakdowns.still f.breakdowns.told fault ran rose)))
    c.print_outcome-2.ensures.ok c.print_outcome-2.ensures.err c.print_outcome-2.ensures.cause

-- ---- the cause of a refusal

pub returns-in-Err-clause-causes : goal.returns-in-Err-clause-causes
returns-in-Err-clause-causes g c =
    rw c.refusal_of_run.ensures (unit-causes _ _ c.in-Err.fault c.in-Err.ensures.refusal.fault (omega arith) (omega arith))

pub returns-in-Err-run_trace-clause-causes : goal.returns-in-Err-run_trace-clause-causes
returns-in-Err-run_trace-clause-causes g c =
    rw c.refusal_of_run-in-Err-run_trace.ensures
    (refused-causes _ _ c.in_ok-trace.trace.start c.in_ok-reserved.reserved c.run_trace.new.outcome c.in-Err-run_trace.fault c.in-Err-run_trace.ensures.refused (omega arith) (omega arith))
