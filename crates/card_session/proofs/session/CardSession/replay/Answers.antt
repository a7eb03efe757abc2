use Rattle.std.proofs.Common.{rules, ◌≡◌, ◌+◌, true, take, drop, refl, ◌∙◌, arith}
use Rattle.std.specs.Prelude.{is_err}
use Rattle.std.proofs.lemmas.List.{take_all}
use Rattle.card_session.proofs.OnCard.{may_still}
use Rattle.card_session.proofs.InsertingLoop.{no_entry, goes_none, goes_more, goes_failed, goes_all, goes_open}
use Rattle.card_session.proofs.session.CardSession.replay.Goals as goal

pub loop-entry-init : goal.loop-entry-init
loop-entry-init g c = record {
  same = (refl, refl, refl);
  part = goes_none c.args.self.now c.requires.value c.args.odometer.0 c.args.entries.now (g.M.Medium.state c.args.port.now);
  most = omega arith;
}

pub enter-requires-clause-card : goal.enter-requires-clause-card
enter-requires-clause-card g c = may_still c.args.self.now.application c.loop-entry.self.application c.loop-entry.invariant.part.leaves c.loop-entry.invariant.same.0 c.requires.card

pub enter-requires-clause-first : goal.enter-requires-clause-first
enter-requires-clause-first g c = (c.requires.minutes c.loop-entry.entry-index no_entry c.loop-entry-test.true).0

pub enter-requires-clause-last : goal.enter-requires-clause-last
enter-requires-clause-last g c = (c.requires.minutes c.loop-entry.entry-index no_entry c.loop-entry-test.true).1

pub returns-in_err-enter-clause-same : goal.returns-in_err-enter-clause-same
returns-in_err-enter-clause-same g c =
    let a = c.in_err-enter.ensures.same in
    let b = c.loop-entry.invariant.same in
    (a.0 ∙ b.0, a.1 ∙ b.1, a.2 ∙ b.2)

pub returns-in_err-enter-clause-part : goal.returns-in_err-enter-clause-part
returns-in_err-enter-clause-part g c =
    let failed : is_err c.from_residual.result ≡ true = search rules in
    let s = c.args.self.now in
    let es = c.args.entries.now in
    let i = c.loop-entry.entry-index in
    let v = c.loop-entry.invariant in
    goes_failed s c.requires.value c.args.odometer.0 es c.enter.new.self _ (take (i + 1) es) (drop (i + 1) es)
    (goes_more s c.requires.value c.args.odometer.0 es i c.loop-entry-test.true c.loop-entry.self c.enter.new.self v.same.0 v.same.1 v.part c.in_err-enter.ensures.part) failed

pub returns-in_err-enter-clause-most : goal.returns-in_err-enter-clause-most
returns-in_err-enter-clause-most g c = omega (arith, c.loop-entry.invariant.most, c.in_err-enter.ensures.most, c.loop-entry-test.true)

pub loop-entry-preserved : goal.loop-entry-preserved
loop-entry-preserved g c =
    let s = c.args.self.now in
    let es = c.args.entries.now in
    let i = c.loop-entry.entry-index in
    let v = c.loop-entry.invariant in
    let a = c.in_ok-enter.ensures in
    record {
      same = (a.same.0 ∙ v.same.0, a.same.1 ∙ v.same.1, a.same.2 ∙ v.same.2);
      part = goes_more s c.requires.value c.args.odometer.0 es i c.loop-entry-test.true c.loop-entry.self c.enter.new.self v.same.0 v.same.1 v.part a.part;
      most = omega (arith, v.most, a.most);
    }

pub returns-clause-part : goal.returns-clause-part
returns-clause-part g c =
    let es = c.args.entries.now in
    let i = c.loop-entry.entry-index in
    goes_all c.args.self.now c.requires.value c.args.odometer.0 es c.loop-entry.self (take i es) (drop i es) (take_all i es (omega (arith, c.loop-entry-test.false))) c.loop-entry.invariant.part

pub returns-clause-open : goal.returns-clause-open
returns-clause-open g c =
    let es = c.args.entries.now in
    let i = c.loop-entry.entry-index in
    goes_open c.args.self.now c.requires.value c.args.odometer.0 es c.loop-entry.self (take i es) (drop i es) (take_all i es (omega (arith, c.loop-entry-test.false))) c.loop-entry.invariant.part
