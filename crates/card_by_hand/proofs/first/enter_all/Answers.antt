use Rattle.std.proofs.Common.{rules, ◌≡◌, ◌∙◌, ℕ, ◌+◌, ◌*◌, ◌/◌, ◌<◌, ◌≤◌, true, false, List, take, drop, get_or, length, inl, refl, sym, subst, arith}
use Rattle.std.specs.Prelude.{is_err, nat_eq}
use Rattle.std.proofs.lemmas.List.{take_all}
use Rattle.std.proofs.lemmas.Bool.{eqb-true, eqb-false}
use Rattle.activity_codec.proofs.ByTest.{by_test}
use Rattle.activity_codec.specs.declared.entries.Manual.{Manual}
use Rattle.hand_model.specs.Holding.{LieBetween, AreOfDay}
use Rattle.hand_model.proofs.OfDay.{none, spans}
use Rattle.card_session.specs.Parts.{DoesPart}
use Rattle.card_session.proofs.OnCard.{may_still}
use Rattle.card_session.proofs.Composing.{part_failed}
use Rattle.card_by_hand.specs.First.{HasEntered, MayBeEntering}
use Rattle.card_by_hand.proofs.Chain.{rest_is, entries_then, entries_none, with_value, ends_on}
use Rattle.card_by_hand.proofs.first.enter_all.Goals as goal

-- the entry that comes next, and those behind it
next_lies : (after before i : ℕ) (es : List Manual) → i < length es → LieBetween after before (drop i es) → (after < (get_or es i none).minute) × LieBetween (get_or es i none).minute before (drop (i + 1) es)
next_lies after before i es low lie = subst (λ (l : List Manual). LieBetween after before l) (rest_is es i low) lie

next_day : (day i : ℕ) (es : List Manual) → i < length es → AreOfDay day (drop i es) → ((get_or es i none).minute / 1440 ≡ day) × AreOfDay day (drop (i + 1) es)
next_day day i es low are = subst (λ (l : List Manual). AreOfDay day l) (rest_is es i low) are

pub loop-entry-init : goal.loop-entry-init
loop-entry-init g c = record {
  same = (refl, refl, refl);
  lie = c.requires.lie;
  day = c.requires.day;
  part = entries_none c.args.entries.now c.args.session.now (g.M.Medium.state c.args.port.now);
  ends = λ some. absurd (omega (arith, some));
  none = λ is. omega arith;
  most = omega arith;
}

pub enter_by_hand-requires-clause-card : goal.enter_by_hand-requires-clause-card
enter_by_hand-requires-clause-card g c = may_still c.args.session.now.application c.loop-entry.session.application c.loop-entry.invariant.part.leaves c.loop-entry.invariant.same.0 c.requires.card

pub enter_by_hand-requires-clause-later : goal.enter_by_hand-requires-clause-later
enter_by_hand-requires-clause-later g c = (next_lies c.loop-entry.session.minute c.args.before c.loop-entry.entry-index c.args.entries.now c.loop-entry-test.true c.loop-entry.invariant.lie).0

pub enter_by_hand-requires-clause-first : goal.enter_by_hand-requires-clause-first
enter_by_hand-requires-clause-first g c =
    let day = (next_day (c.args.before / 1440) c.loop-entry.entry-index c.args.entries.now c.loop-entry-test.true c.loop-entry.invariant.day).0 in
    omega (arith, day, c.requires.first)

pub enter_by_hand-requires-clause-last : goal.enter_by_hand-requires-clause-last
enter_by_hand-requires-clause-last g c =
    let i = c.loop-entry.entry-index in
    let lie = next_lies c.loop-entry.session.minute c.args.before c.loop-entry.entry-index c.args.entries.now c.loop-entry-test.true c.loop-entry.invariant.lie in
    let low = spans (get_or c.args.entries.now c.loop-entry.entry-index none).minute c.args.before (drop (i + 1) c.args.entries.now) lie.1 in
    omega (arith, low, c.requires.last)

pub returns-in_err-enter_by_hand-clause-same : goal.returns-in_err-enter_by_hand-clause-same
returns-in_err-enter_by_hand-clause-same g c =
    let a = c.in_err-enter_by_hand.ensures.session.same in
    let b = c.loop-entry.invariant.same in
    (a.0 ∙ b.0, a.1 ∙ b.1, a.2 ∙ b.2)

pub returns-in_err-enter_by_hand-clause-part : goal.returns-in_err-enter_by_hand-clause-part
returns-in_err-enter_by_hand-clause-part g c =
    let failed : is_err c.from_residual.result ≡ true = search rules in
    let es = c.args.entries.now in
    let i = c.loop-entry.entry-index in
    let e = c.in_err-enter_by_hand.ensures in
    part_failed
    (entries_then es i c.loop-entry-test.true c.args.session.now c.loop-entry.session c.enter_by_hand.new.self c.loop-entry.invariant.part
    (record { done = λ fine. absurd (cc); leaves = e.moments; cause = inl e.cause })) failed (λ x d was one. one)

pub returns-in_err-enter_by_hand-clause-none : goal.returns-in_err-enter_by_hand-clause-none
returns-in_err-enter_by_hand-clause-none g c = λ is. absurd (omega (arith, is, c.loop-entry-test.true))

-- how many writes there are, one entry more
few : (i was now start : ℕ) → (i ≡ 0 → was ≤ start) → was ≤ start + (5 + 4 * i) → now ≤ was + 9 → (0 < i → now ≤ was + 4) → now ≤ start + (5 + 4 * (i + 1))
few i was now start still most nine four =
    by_test (nat_eq i 0)
    (λ first. omega (arith, eqb-true i 0 first, still (eqb-true i 0 first), nine))
    (λ more. omega (arith, most, four (positive i (eqb-false i 0 more))))
  where
    positive : (n : ℕ) → (n ≡ 0 → ⊥) → 0 < n
    positive n other = omega (arith, other)

pub returns-in_err-enter_by_hand-clause-most : goal.returns-in_err-enter_by_hand-clause-most
returns-in_err-enter_by_hand-clause-most g c =
    let i = c.loop-entry.entry-index in
    let v = c.loop-entry.invariant in
    let e = c.in_err-enter_by_hand.ensures in
    let day = (next_day (c.args.before / 1440) c.loop-entry.entry-index c.args.entries.now c.loop-entry-test.true c.loop-entry.invariant.day).0 in
    let now = few i _ _ _ v.none v.most e.writes.most (λ some. e.writes.few (ends_on c.loop-entry.session c.args.before (get_or c.args.entries.now c.loop-entry.entry-index none).minute (sym day) (v.ends some))) in
    omega (arith, now, c.loop-entry-test.true)

pub loop-entry-preserved : goal.loop-entry-preserved
loop-entry-preserved g c =
    let es = c.args.entries.now in
    let i = c.loop-entry.entry-index in
    let v = c.loop-entry.invariant in
    let a = c.in_ok-enter_by_hand.ensures in
    let low = c.loop-entry-test.true in
    let day = next_day (c.args.before / 1440) i es low v.day in
    let lie = next_lies c.loop-entry.session.minute c.args.before i es low v.lie in
    record {
      same = (a.session.same.0 ∙ v.same.0, a.session.same.1 ∙ v.same.1, a.session.same.2 ∙ v.same.2);
      lie = subst (λ (m : ℕ). LieBetween m c.args.before (drop (i + 1) es)) (sym a.session.last) lie.1;
      day = day.1;
      part = entries_then es i low c.args.session.now c.loop-entry.session c.enter_by_hand.new.self v.part
          (with_value c.loop-entry.session c.enter_by_hand.new.self (get_or es i none) (record { application = a.session.same.0; registration = a.session.same.1; odometer = a.session.same.2; minute = a.session.last; ends = a.session.ends }) (record { done = λ fine. a.entered; leaves = a.moments; cause = inl a.cause }));
      ends = λ some. ends_on c.enter_by_hand.new.self (get_or es i none).minute c.args.before day.0 a.session.ends;
      none = λ is. absurd (omega (arith, is));
      most = few i _ _ _ v.none v.most a.writes.most (λ some. a.writes.few (ends_on c.loop-entry.session c.args.before (get_or es i none).minute (sym day.0) (v.ends some)));
    }

pub returns-clause-later : goal.returns-clause-later
returns-clause-later g c = spans c.loop-entry.session.minute c.args.before (drop c.loop-entry.entry-index c.args.entries.now) c.loop-entry.invariant.lie

pub returns-clause-part : goal.returns-clause-part
returns-clause-part g c =
    let es = c.args.entries.now in
    let i = c.loop-entry.entry-index in
    let all : take c.loop-entry.entry-index c.args.entries.now ≡ c.args.entries.now = take_all i es (omega (arith, c.loop-entry-test.false)) in
    subst (λ (l : List Manual). DoesPart (g.M.Medium.state c.args.port.now) (g.M.Medium.state c.loop-entry.port) false (HasEntered l c.args.session.now c.loop-entry.session) (MayBeEntering es c.args.session.now)) all c.loop-entry.invariant.part

pub returns-clause-ends : goal.returns-clause-ends
returns-clause-ends g c = λ some. c.loop-entry.invariant.ends (omega (arith, some, c.loop-entry-test.false))

pub returns-clause-none : goal.returns-clause-none
returns-clause-none g c = λ is. c.loop-entry.invariant.none (omega (arith, is, c.loop-entry.auto.entry-index-end))

pub returns-clause-most : goal.returns-clause-most
returns-clause-most g c = omega (arith, c.loop-entry.invariant.most, c.loop-entry.auto.entry-index-end)
