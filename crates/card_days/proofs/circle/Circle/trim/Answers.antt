use Rattle.std.proofs.Common.{ℕ, [], false, length, IfSome, ap, subst, arith}
use Rattle.tach_media.specs.Medium.{Reads}
use Rattle.tach_media.proofs.Runs.{weaken, goes_on, at_image, on_ok, ok_gives}
use Rattle.card_model.specs.Changes.{until}
use Rattle.card_model.specs.Image.{HoldsDays}
use Rattle.card_days.specs.Trim.{IsTrimming, IsTrimmed, IsCutLast, IsTrim}
use Rattle.card_days.proofs.CutLast.{while_dropping, while_cutting, trim_made}
use Rattle.card_days.proofs.Settling.{reads_after, settled_after, still_after}
use Rattle.card_days.proofs.Told.{if_told, from_told, through}
use Rattle.card_days.proofs.circle.Circle.trim.Goals as goal

pub returns-in_err-drop_later-clause-moments : goal.returns-in_err-drop_later-clause-moments
returns-in_err-drop_later-clause-moments g c =
    let r = c.args.self.now in
    let m = c.args.minute in
    weaken c.drop_later.ensures.moments (λ x d was step. while_dropping r m x d (subst (λ (k : ℕ). IsTrimming r k 0 x d) c.first_second.ensures step))

pub returns-clause-moments : goal.returns-clause-moments
returns-clause-moments g c =
    let r = c.args.self.now in
    let m = c.args.minute in
    let first = weaken c.drop_later.ensures.moments (λ x d was step. while_dropping r m x d (subst (λ (k : ℕ). IsTrimming r k 0 x d) c.first_second.ensures step)) in
    goes_on first c.cut.ensures.moments (λ x y d was is step.
    while_cutting r m x y (subst (λ (k : ℕ). IsTrimmed r k x y) c.first_second.ensures
    (at_image (IsTrimmed r c.first_second.result x) is (at_image (λ x. IfSome (g.M.Medium.state c.drop_later.new.medium).image (IsTrimmed r c.first_second.result x)) was c.in_ok-drop_later.ensures.dropped.trimmed))) d step)

pub returns-clause-trimmed : goal.returns-clause-trimmed
returns-clause-trimmed g c = on_ok c.cut.result (λ fine. record {
  is =
      let r = c.args.self.now in
      let m = c.args.minute in
      through (g.M.Medium.state c.args.medium.now).image (g.M.Medium.state c.drop_later.new.medium).image _ (IsTrimmed r c.first_second.result) (IsCutLast r m) (IsTrim r m) c.drop_later.ensures.moments.tells
      c.in_ok-drop_later.ensures.dropped.trimmed (ok_gives c.cut.result c.cut.ensures.cut fine) (λ x y z was first step. trim_made r m x y (subst (λ (k : ℕ). IsTrimmed r k x y) c.first_second.ensures first) z step);
  settled = if_told (g.M.Medium.state c.args.medium.now).image _ (λ x was.
      settled_after c.args.self.now c.in_ok-drop_later.ensures.dropped.settled (ok_gives c.cut.result c.cut.ensures.settled fine) x was);
  still = still_after c.args.self.now c.in_ok-drop_later.ensures.dropped.settled (ok_gives c.cut.result c.cut.ensures.settled fine);
})

pub returns-clause-empty : goal.returns-clause-empty
returns-clause-empty g c =
    let r = c.args.self.now in
    if_told (g.M.Medium.state c.args.medium.now).image _ (λ x was h. reads_after r x was h
    (at_image (λ x. HoldsDays r x [] → Reads (g.M.Medium.state c.args.medium.now) (g.M.Medium.state c.drop_later.new.medium) false) was c.in_ok-drop_later.ensures.empty h) c.cut.ensures.empty)

pub returns-in_err-drop_later-clause-writes : goal.returns-in_err-drop_later-clause-writes
returns-in_err-drop_later-clause-writes g c = from_told (g.M.Medium.state c.args.medium.now).image _ _ c.drop_later.ensures.writes (λ x was few days h.
    omega (arith, few days h, ap (λ (k : ℕ). length (until k days)) c.first_second.ensures))

pub returns-clause-writes : goal.returns-clause-writes
returns-clause-writes g c = from_told (g.M.Medium.state c.args.medium.now).image _ _ c.in_ok-drop_later.ensures.dropped.drops (λ x was few days h.
    omega (arith, few days h, c.cut.ensures.most, ap (λ (k : ℕ). length (until k days)) c.first_second.ensures))
