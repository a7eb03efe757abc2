use Rattle.std.proofs.lemmas.Grind.{common_steps}
use Rattle.std.proofs.Common.{◌≡◌, refl, arith, rules}
use Rattle.std.proofs.lemmas.Result.{on_ok_weaker, IfErr-weaker}
use Rattle.trace_model.specs.declared.Card.{Card}
use Rattle.trace_model.specs.declared.Card.TheVariants.{A, B}
use Rattle.log_model.specs.Causes.{device_of}
use Rattle.tacho.specs.Alone.{counts}
use Rattle.tacho.specs.Blank.{no_image}
use Rattle.tacho.proofs.NoCard.{begins-alone, time-alone}
use Rattle.tacho.proofs.AloneRun.{is-alone, is-caused}
use Rattle.tacho.proofs.AloneRefused.{refused-alone, of-unit-alone, refused-by}
use Rattle.tacho.proofs.alone.record_alone.Goals as goal

pub returns-clause-recorded : goal.returns-clause-recorded
returns-clause-recorded g c = λ cards x alone clock few.
    let U = g.U.Medium.state c.args.unit.now in
    let V = g.U.Medium.state c.run_trace.new.unit in
    let begins = begins-alone x U c.no_card-card_a.result.medium.broken c.no_card-card_b.result.medium.broken (g.met.U.Medium.coherent c.args.unit.now) alone in
    let time = time-alone V c.run_trace.new.card_a.medium.broken c.run_trace.new.card_b.medium.broken clock in
    on_ok_weaker c.run_trace.result (λ h. is-alone x c.args.trace.now.start c.args.trace.now.items c.run_trace.new.outcome U V _ _ _ _ c.requires.for_unit h.ends cards)
    (c.run_trace.ensures.recorded x no_image no_image (record { begins = begins; time = time; few = few }))

pub returns-clause-causes : goal.returns-clause-causes
returns-clause-causes g c = λ x a b alone clock few.
    let U = g.U.Medium.state c.args.unit.now in
    let V = g.U.Medium.state c.run_trace.new.unit in
    let begins = begins-alone x U c.no_card-card_a.result.medium.broken c.no_card-card_b.result.medium.broken (g.met.U.Medium.coherent c.args.unit.now) alone in
    let time = time-alone V c.run_trace.new.card_a.medium.broken c.run_trace.new.card_b.medium.broken clock in
    let same : (card : Card) → counts V.breakdowns a b (device_of card) ≡ counts U.breakdowns a b (device_of card) = λ card. elim card as (λ k. counts V.breakdowns a b (device_of k) ≡ counts U.breakdowns a b (device_of k)) [ A ↦ refl | B ↦ refl ] in
    on_ok_weaker c.run_trace.result (λ h. is-caused x c.args.trace.now.start c.args.trace.now.items c.run_trace.new.outcome U V _ _ _ _ c.requires.for_unit h.ends (counts U.breakdowns a b) (counts V.breakdowns a b) refl refl same)
    (c.run_trace.ensures.recorded x no_image no_image (record { begins = begins; time = time; few = few }))

pub returns-clause-begun : goal.returns-clause-begun
returns-clause-begun g c = λ x alone.
    let begins = begins-alone x (g.U.Medium.state c.args.unit.now) c.no_card-card_a.result.medium.broken c.no_card-card_b.result.medium.broken (g.met.U.Medium.coherent c.args.unit.now) alone in
    on_ok_weaker c.run_trace.result (λ may. (may.decodes, may.later)) (c.run_trace.ensures.begun x no_image no_image begins)

pub returns-clause-breakdowns : goal.returns-clause-breakdowns
returns-clause-breakdowns g c = record {
  broke = c.run_trace.ensures.breakdowns.broke;
  calm = c.run_trace.ensures.breakdowns.calm;
  told = on_ok_weaker c.run_trace.result (λ told. told.unit) c.run_trace.ensures.breakdowns.told;
  later = c.run_trace.ensures.goes.later.unit;
}

pub returns-clause-refusal : goal.returns-clause-refusal
returns-clause-refusal g c = record {
  fault =
      IfErr-weaker c.run_trace.result _ _
      (λ fault is. of-unit-alone c.args.trace.now.start c.args.outcome.now c.run_trace.new.outcome (g.U.Medium.state c.args.unit.now) (g.U.Medium.state c.run_trace.new.unit) fault
      (refused-alone c.args.trace.now.start (g.U.Medium.state c.args.unit.now) (g.U.Medium.state c.run_trace.new.unit) c.no_card-card_a.result.medium.broken c.no_card-card_b.result.medium.broken c.run_trace.new.card_a.medium.broken c.run_trace.new.card_b.medium.broken
      c.no_card-card_a.ensures c.no_card-card_b.ensures c.args.outcome.now c.run_trace.new.outcome fault is)) c.run_trace.ensures.refused;
  early =
      IfErr-weaker c.run_trace.result _ _ (λ fault is. refused-alone c.args.trace.now.start (g.U.Medium.state c.args.unit.now) (g.U.Medium.state c.run_trace.new.unit) c.no_card-card_a.result.medium.broken c.no_card-card_b.result.medium.broken c.run_trace.new.card_a.medium.broken c.run_trace.new.card_b.medium.broken
      c.no_card-card_a.ensures c.no_card-card_b.ensures c.args.outcome.now c.run_trace.new.outcome fault is) c.run_trace.ensures.refused;
  refused =
      refused-by c.args.trace.now.start (g.U.Medium.state c.args.unit.now) (g.U.Medium.state c.run_trace.new.unit) c.no_card-card_a.result.medium.broken c.no_card-card_b.result.medium.broken c.run_trace.new.card_a.medium.broken c.run_trace.new.card_b.medium.broken
      c.no_card-card_a.ensures c.no_card-card_b.ensures c.run_trace.result _ c.args.outcome.now c.run_trace.new.outcome
      (g.met.U.Medium.coherent c.args.unit.now) (g.met.U.Medium.coherent c.run_trace.new.unit) (λ x y z begins time few. c.run_trace.ensures.fault x y z (record { begins = begins; time = time; few = few }));
}

pub returns-clause-goes : goal.returns-clause-goes
returns-clause-goes g c = record { most = c.run_trace.ensures.goes.most.unit; unit = first_of (search rules, grind (arith, common_steps)) }
