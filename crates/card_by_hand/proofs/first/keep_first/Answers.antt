use Rattle.std.proofs.lemmas.Grind.{common_steps}
use Rattle.std.proofs.Common.{rules, ◌≡◌, ◌∙◌, inl, ℕ, ◌<◌, true, length, arith}
use Rattle.std.specs.Prelude.{is_err, nat_eq}
use Rattle.std.proofs.lemmas.Bool.{eqb-true, eqb-false}
use Rattle.activity_codec.proofs.ByTest.{by_test}
use Rattle.tach_media.proofs.Runs.{weaken, ok_gives, on_ok}
use Rattle.card_session.proofs.OnCard.{may_still}
use Rattle.card_session.proofs.Composing.{called_then}
use Rattle.card_by_hand.proofs.Chain.{keep_then, failed_cause}
use Rattle.card_by_hand.proofs.first.keep_first.Goals as goal

positive : (n : ℕ) → (n ≡ 0 → ⊥) → 0 < n
positive n other = omega (arith, other)

pub keep-requires-clause-card : goal.keep-requires-clause-card
keep-requires-clause-card g c = may_still c.args.session.now.application c.enter_all.new.session.application c.in_ok-enter_all.ensures.part.leaves c.in_ok-enter_all.ensures.same.0 c.requires.card

pub returns-in_err-enter_all-clause-alters : goal.returns-in_err-enter_all-clause-alters
returns-in_err-enter_all-clause-alters g c = record {
  done = first_of (search rules, grind (arith, common_steps));
  moments = weaken c.in_err-enter_all.ensures.part.leaves (λ x d was one knows. inl (one knows));
  settled = first_of (search rules, grind (arith, common_steps));
  cause =
      let failed : is_err c.from_residual.result ≡ true = search rules in
      failed_cause c.in_err-enter_all.ensures.part failed;
  most = omega (arith, c.in_err-enter_all.ensures.most);
}

pub returns-clause-alters : goal.returns-clause-alters
returns-clause-alters g c = record {
  done =
      let k = c.args.kept.now in
      let e = c.keep.ensures in
      on_ok c.keep.result (λ fine. (keep_then c.args.by_hand.now k.entry k.odometer.0 c.args.session.now c.enter_all.new.session c.keep.new.self c.in_ok-enter_all.ensures.part
      (record { done = λ fine. ok_gives c.keep.result e.alters.done fine; leaves = e.alters.moments; cause = inl e.alters.cause })).done fine);
  moments =
      let k = c.args.kept.now in
      let e = c.keep.ensures in
      (keep_then c.args.by_hand.now k.entry k.odometer.0 c.args.session.now c.enter_all.new.session c.keep.new.self c.in_ok-enter_all.ensures.part
      (record { done = λ fine. ok_gives c.keep.result e.alters.done fine; leaves = e.alters.moments; cause = inl e.alters.cause })).leaves;
  settled = first_of (search rules, grind (arith, common_steps));
  cause = called_then c.in_ok-enter_all.ensures.part.cause c.keep.ensures.alters.cause;
  most =
      let a = c.in_ok-enter_all.ensures in
      by_test (nat_eq (length c.args.by_hand.now) 0)
      (λ no. omega (arith, a.none (eqb-true (length c.args.by_hand.now) 0 no), c.keep.ensures.alters.most))
      (λ some. omega (arith, a.most, c.keep.ensures.few (a.ends (positive (length c.args.by_hand.now) (eqb-false (length c.args.by_hand.now) 0 some)))));
}

pub returns-in_err-enter_all-clause-same : goal.returns-in_err-enter_all-clause-same
returns-in_err-enter_all-clause-same g c = (c.in_err-enter_all.ensures.same.0, c.in_err-enter_all.ensures.same.1)

pub returns-clause-same : goal.returns-clause-same
returns-clause-same g c = (c.keep.ensures.same.0 ∙ c.in_ok-enter_all.ensures.same.0, c.keep.ensures.same.1 ∙ c.in_ok-enter_all.ensures.same.1)
