use Rattle.std.proofs.Common.{rules, ◌≡◌, ◌+◌, true, length, refl, arith, ◌∙◌, ap}
use Rattle.std.specs.Prelude.{is_err}
use Rattle.run_devices.specs.run_promise.Between.{devices}
use Rattle.run_events.proofs.run_speeds.Leaving.{leaves-none, leaves-then}
use Rattle.run_minutes.proofs.Goes.{bare-none, bare-then, keeping_then, stands_then, stands_by}
use Rattle.run_minutes.proofs.SoFar.{so-none, so-all, so-more, so-cut, may-next, stands-next, ended-next}
use Rattle.run_minutes.proofs.Writes.{wrote-none, wrote-minute, wrote-minutes}
use Rattle.run_minutes.proofs.keeper.Keeper.keep_all.Goals as goal
use Rattle.run_outcome.specs.declared.outcome.Outcome.{Outcome}

pub loop-minute-init : goal.loop-minute-init
loop-minute-init g c = record {
  so = so-none c.args.minutes.decided.now c.args.minutes.at c.requires.may c.requires.ready;
  most = wrote-none _ _ (devices (g.M.Medium.state c.args.unit.now) (g.C.Chip.state c.args.card_a.now) (g.D.Chip.state c.args.card_b.now));
  speeds = leaves-none (g.M.Medium.state c.args.unit.now);
  only = refl;
  bare = bare-none c.args.self.now.cabin.cards c.args.card_a.now c.args.card_b.now;
}

pub present-present-requires : goal.present-present-requires
present-present-requires g c = record { ended = ended-next c.args.minutes.decided.now c.args.minutes.at c.requires.may c.loop-minute.minute-index c.loop-minute.invariant.so c.loop-minute-test.true }

pub kept_of-kept-requires : goal.kept_of-kept-requires
kept_of-kept-requires g c = let same = c.loop-minute.invariant.so.goes.odometer in let low = c.requires.may.odometer in omega (arith, same, low)

pub keep_minute-requires-clause-ready : goal.keep_minute-requires-clause-ready
keep_minute-requires-clause-ready g c = c.loop-minute.invariant.so.behind.ready refl

pub keep_minute-requires-clause-may : goal.keep_minute-requires-clause-may
keep_minute-requires-clause-may g c =
    let so = c.loop-minute.invariant.so in
    let low = c.loop-minute-test.true in
    let i = c.loop-minute.minute-index in
    may-next c.args.minutes.decided.now c.args.minutes.at c.requires.may i so low c.present-present.result c.present-present.ensures.present c.kept_of-kept.ensures
    (c.present-present.ensures.stands _ c.requires.may.leaving (omega arith) (stands-next c.args.minutes.decided.now c.args.minutes.at c.requires.may i so low))

pub loop-minute-preserved : goal.loop-minute-preserved
loop-minute-preserved g c =
    let so = c.loop-minute.invariant.so in
    let e = c.in_ok-keep_minute.ensures in
    record {
      so = so-more c.args.minutes.decided.now c.args.minutes.at c.requires.may c.loop-minute.minute-index so c.loop-minute-test.true c.present-present.result c.present-present.ensures.present c.kept_of-kept.ensures e.goes.keeping e.stands e.kept;
      most = wrote-minute c.loop-minute.minute-index (devices (g.M.Medium.state c.args.unit.now) (g.C.Chip.state c.args.card_a.now) (g.D.Chip.state c.args.card_b.now)) (devices (g.M.Medium.state c.loop-minute.unit) (g.C.Chip.state c.loop-minute.card_a) (g.D.Chip.state c.loop-minute.card_b)) (devices (g.M.Medium.state c.keep_minute.new.unit) (g.C.Chip.state c.keep_minute.new.card_a) (g.D.Chip.state c.keep_minute.new.card_b)) c.loop-minute.invariant.most e.goes.most;
      speeds = leaves-then (g.M.Medium.state c.args.unit.now) (g.M.Medium.state c.loop-minute.unit) (g.M.Medium.state c.keep_minute.new.unit) c.loop-minute.invariant.speeds e.goes.speeds;
      only = e.only ∙ ap (λ (o : Outcome). record o { marks = c.keep_minute.new.outcome.marks; breaks = c.keep_minute.new.outcome.breaks }) c.loop-minute.invariant.only;
      bare = bare-then c.args.self.now.cabin.cards c.loop-minute.self.cabin.cards c.args.card_a.now c.loop-minute.card_a c.keep_minute.new.card_a c.args.card_b.now c.loop-minute.card_b c.keep_minute.new.card_b so.goes.sessions c.loop-minute.invariant.bare e.calls.bare;
    }

-- ---- all of them are kept

pub returns-clause-stands : goal.returns-clause-stands
returns-clause-stands g c = c.loop-minute.invariant.so.behind

pub returns-clause-goes : goal.returns-clause-goes
returns-clause-goes g c = record {
  keeping = c.loop-minute.invariant.so.goes;
  most = wrote-minutes c.loop-minute.minute-index (length c.args.minutes.decided.now) (devices (g.M.Medium.state c.args.unit.now) (g.C.Chip.state c.args.card_a.now) (g.D.Chip.state c.args.card_b.now)) (devices (g.M.Medium.state c.loop-minute.unit) (g.C.Chip.state c.loop-minute.card_a) (g.D.Chip.state c.loop-minute.card_b)) c.loop-minute.invariant.so.within c.loop-minute.invariant.most;
  speeds = c.loop-minute.invariant.speeds;
}

pub returns-clause-kept : goal.returns-clause-kept
returns-clause-kept g c = so-all c.args.minutes.decided.now c.args.minutes.at c.requires.may c.loop-minute.minute-index c.loop-minute.invariant.so (omega (arith, c.loop-minute-test.false))

pub returns-clause-bare : goal.returns-clause-bare
returns-clause-bare g c = c.loop-minute.invariant.bare

-- ---- the unit failed

pub returns-in_err-keep_minute-clause-stands : goal.returns-in_err-keep_minute-clause-stands
returns-in_err-keep_minute-clause-stands g c =
    let failed : true ≡ is_err c.from_residual.result = search rules in
    stands_by failed (stands_then c.loop-minute.invariant.so.behind c.in_err-keep_minute.ensures.stands)

pub returns-in_err-keep_minute-clause-goes : goal.returns-in_err-keep_minute-clause-goes
returns-in_err-keep_minute-clause-goes g c = record {
  keeping = keeping_then c.loop-minute.invariant.so.goes c.in_err-keep_minute.ensures.goes.keeping;
  most =
      let low = c.loop-minute-test.true in
      wrote-minutes (c.loop-minute.minute-index + 1) (length c.args.minutes.decided.now) (devices (g.M.Medium.state c.args.unit.now) (g.C.Chip.state c.args.card_a.now) (g.D.Chip.state c.args.card_b.now)) (devices (g.M.Medium.state c.keep_minute.new.unit) (g.C.Chip.state c.keep_minute.new.card_a) (g.D.Chip.state c.keep_minute.new.card_b)) (omega (arith, low))
      (wrote-minute c.loop-minute.minute-index (devices (g.M.Medium.state c.args.unit.now) (g.C.Chip.state c.args.card_a.now) (g.D.Chip.state c.args.card_b.now)) (devices (g.M.Medium.state c.loop-minute.unit) (g.C.Chip.state c.loop-minute.card_a) (g.D.Chip.state c.loop-minute.card_b)) (devices (g.M.Medium.state c.keep_minute.new.unit) (g.C.Chip.state c.keep_minute.new.card_a) (g.D.Chip.state c.keep_minute.new.card_b)) c.loop-minute.invariant.most c.in_err-keep_minute.ensures.goes.most);
  speeds = leaves-then (g.M.Medium.state c.args.unit.now) (g.M.Medium.state c.loop-minute.unit) (g.M.Medium.state c.keep_minute.new.unit) c.loop-minute.invariant.speeds c.in_err-keep_minute.ensures.goes.speeds;
}

pub returns-in_err-keep_minute-clause-kept : goal.returns-in_err-keep_minute-clause-kept
returns-in_err-keep_minute-clause-kept g c =
    let failed : true ≡ is_err c.from_residual.result = search rules in
    let e = c.in_err-keep_minute.ensures in
    so-cut c.args.minutes.decided.now c.args.minutes.at c.requires.may c.loop-minute.minute-index c.loop-minute.invariant.so c.loop-minute-test.true c.present-present.result c.present-present.ensures.present failed c.kept_of-kept.ensures e.goes.keeping e.kept

pub returns-in_err-keep_minute-clause-bare : goal.returns-in_err-keep_minute-clause-bare
returns-in_err-keep_minute-clause-bare g c =
    bare-then c.args.self.now.cabin.cards c.loop-minute.self.cabin.cards c.args.card_a.now c.loop-minute.card_a c.keep_minute.new.card_a c.args.card_b.now c.loop-minute.card_b c.keep_minute.new.card_b c.loop-minute.invariant.so.goes.sessions c.loop-minute.invariant.bare c.in_err-keep_minute.ensures.calls.bare

-- ---- its writes

pub returns-clause-only : goal.returns-clause-only
returns-clause-only g c = c.loop-minute.invariant.only

pub returns-in_err-keep_minute-clause-only : goal.returns-in_err-keep_minute-clause-only
returns-in_err-keep_minute-clause-only g c = c.in_err-keep_minute.ensures.only ∙ ap (λ (o : Outcome). record o { marks = c.keep_minute.new.outcome.marks; breaks = c.keep_minute.new.outcome.breaks }) c.loop-minute.invariant.only
