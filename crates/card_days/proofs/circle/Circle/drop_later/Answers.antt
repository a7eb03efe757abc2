use Rattle.std.proofs.lemmas.Grind.{common_steps}
use Rattle.std.proofs.Common.{◌≡◌, ◌+◌, List, [], inl, false, IfSome, arith, sym, ◌∙◌, rules}
use Rattle.tach_media.specs.Medium.{Reads}
use Rattle.tach_media.proofs.Runs.{goes_on, at_image, where_told, told_too, cause_after}
use Rattle.card_model.specs.Days.{Day}
use Rattle.card_model.specs.Image.{HoldsDays}
use Rattle.card_days.specs.Trim.{IsTrimming, IsTrimmed, IsWithoutLast, newest_later}
use Rattle.card_days.proofs.Rears.{later_told}
use Rattle.card_days.proofs.Settling.{none_later}
use Rattle.card_days.proofs.Told.{if_told, from_told, through_both}
use Rattle.card_days.proofs.Trimming.{trimming_then, trimming_one, trimming_part, trimming_fewer, ends_trimmed, too_many, until_short, drops_few}
use Rattle.card_days.proofs.circle.Circle.drop_later.Goals as goal

pub returns-in_err-rear-2-clause-moments : goal.returns-in_err-rear-2-clause-moments
returns-in_err-rear-2-clause-moments g c =
    let r = c.args.self.now in
    let date = c.args.date in
    let i = c.loop-later.count in
    let inv = c.loop-later.invariant in
    let later = later_told (g.M.Medium.state c.loop-later.medium).image r inv.shape (λ x is. omega (arith, c.requires.fits, inv.moments.size, (g.met.M.Medium.coherent c.loop-later.medium).sized x is)) c.loop-later.rear date c.loop-later.later inv.later inv.known in
    goes_on inv.moments c.drop_newest.ensures.moments (λ x y d was is step.
    trimming_fewer r date (i + 0) x d (trimming_then r date i 0 x y d
    (at_image (IsTrimming r date i x) is (at_image (λ x. IfSome (g.M.Medium.state c.loop-later.medium).image (IsTrimming r date i x)) was inv.made))
    (trimming_part r date y d (λ days h. sym (at_image (λ y. (days : List Day) → HoldsDays r y days → c.loop-later.later ≡ newest_later date days) is later days h) ∙ c.loop-later-test.true) step)))

pub loop-later-preserved : goal.loop-later-preserved
loop-later-preserved g c =
    let r = c.args.self.now in
    let date = c.args.date in
    let i = c.loop-later.count in
    let inv = c.loop-later.invariant in
    let again = c.in_ok-rear-2.ensures in
    let later = later_told (g.M.Medium.state c.loop-later.medium).image r inv.shape (λ x is. omega (arith, c.requires.fits, inv.moments.size, (g.met.M.Medium.coherent c.loop-later.medium).sized x is)) c.loop-later.rear date c.loop-later.later inv.later inv.known in
    record {
      few = omega (arith, c.if-count-lt-DAYS_MOST.true);
      most = omega (arith, inv.most, c.drop_newest.ensures.most);
      shape = inv.shape;
      cause = cause_after inv.cause again.cause;
      made = through_both (g.M.Medium.state c.args.medium.now).image (g.M.Medium.state c.loop-later.medium).image (g.M.Medium.state c.drop_newest.new.medium).image (IsTrimming r date i) (IsWithoutLast r) (IsTrimming r date (i + 1))
          inv.moments.tells inv.made again.shortened (λ x y z was is a b. trimming_then r date i 1 x y z a
          (trimming_one r date y z (λ days h. sym (at_image (λ y. (days : List Day) → HoldsDays r y days → c.loop-later.later ≡ newest_later date days) is later days h) ∙ c.loop-later-test.true) b));
      moments = goes_on inv.moments c.drop_newest.ensures.moments (λ x y d was is step.
          trimming_fewer r date (i + 0) x d (trimming_then r date i 0 x y d
          (at_image (IsTrimming r date i x) is (at_image (λ x. IfSome (g.M.Medium.state c.loop-later.medium).image (IsTrimming r date i x)) was inv.made))
          (trimming_part r date y d (λ days h. sym (at_image (λ y. (days : List Day) → HoldsDays r y days → c.loop-later.later ≡ newest_later date days) is later days h) ∙ c.loop-later-test.true) step)));
      settled = inl again.settled;
      empty = if_told (g.M.Medium.state c.args.medium.now).image _ (λ x was h. absurd (none_later r date c.loop-later.later c.loop-later-test.true x was h
          (at_image (λ x. HoldsDays r x [] → Reads (g.M.Medium.state c.args.medium.now) (g.M.Medium.state c.loop-later.medium) false) was inv.empty h) later));
      lies = again.lies;
      known = again.known;
      later = c.is_later-later-in-loop-later.ensures;
    }

pub returns-else-count-lt-DAYS_MOST-clause-dropped : goal.returns-else-count-lt-DAYS_MOST-clause-dropped
returns-else-count-lt-DAYS_MOST-clause-dropped g c = record {
  trimmed =
      let r = c.args.self.now in
      let date = c.args.date in
      let i = c.loop-later.count in
      let inv = c.loop-later.invariant in
      where_told (g.M.Medium.state c.args.medium.now).image _ (IsTrimmed r date) (λ x y was is.
      ends_trimmed r date i x y (at_image (IsTrimming r date i x) is (at_image (λ x. IfSome (g.M.Medium.state c.loop-later.medium).image (IsTrimming r date i x)) was inv.made))
      (λ days kept h s k. too_many r inv.shape date i x (omega (arith, c.requires.fits, (g.met.M.Medium.coherent c.args.medium.now).sized x was)) c.if-count-lt-DAYS_MOST.false days kept h s));
  settled = first_of (search rules, grind (arith, common_steps));
  drops =
      let inv = c.loop-later.invariant in
      if_told (g.M.Medium.state c.args.medium.now).image _ (λ x was days h.
      let now = told_too (g.M.Medium.state c.args.medium.now).image (g.M.Medium.state c.loop-later.medium).image x (sym inv.moments.tells) was in
      omega (
        arith,
        inv.most,
        drops_few c.args.self.now c.args.date c.loop-later.count x now.0
            (at_image (IsTrimming c.args.self.now c.args.date c.loop-later.count x) now.1 (at_image (λ x. IfSome (g.M.Medium.state c.loop-later.medium).image (IsTrimming c.args.self.now c.args.date c.loop-later.count x)) was inv.made)) days h,
      ));
}

pub returns-after-loop-later-clause-dropped : goal.returns-after-loop-later-clause-dropped
returns-after-loop-later-clause-dropped g c = record {
  trimmed =
      let r = c.args.self.now in
      let date = c.args.date in
      let i = c.loop-later.count in
      let inv = c.loop-later.invariant in
      let later = later_told (g.M.Medium.state c.loop-later.medium).image r inv.shape (λ x is. omega (arith, c.requires.fits, inv.moments.size, (g.met.M.Medium.coherent c.loop-later.medium).sized x is)) c.loop-later.rear date c.loop-later.later inv.later inv.known in
      where_told (g.M.Medium.state c.args.medium.now).image _ (IsTrimmed r date) (λ x y was is.
      ends_trimmed r date i x y (at_image (IsTrimming r date i x) is (at_image (λ x. IfSome (g.M.Medium.state c.loop-later.medium).image (IsTrimming r date i x)) was inv.made))
      (λ days kept h s k. sym (at_image (λ y. (days : List Day) → HoldsDays r y days → c.loop-later.later ≡ newest_later date days) is later kept k) ∙ c.loop-later-test.false));
  settled = first_of (search rules, grind (arith, common_steps));
  drops =
      let inv = c.loop-later.invariant in
      if_told (g.M.Medium.state c.args.medium.now).image _ (λ x was days h.
      let now = told_too (g.M.Medium.state c.args.medium.now).image (g.M.Medium.state c.loop-later.medium).image x (sym inv.moments.tells) was in
      omega (
        arith,
        inv.most,
        drops_few c.args.self.now c.args.date c.loop-later.count x now.0
            (at_image (IsTrimming c.args.self.now c.args.date c.loop-later.count x) now.1 (at_image (λ x. IfSome (g.M.Medium.state c.loop-later.medium).image (IsTrimming c.args.self.now c.args.date c.loop-later.count x)) was inv.made)) days h,
      ));
}

pub returns-in_err-rear-2-clause-empty : goal.returns-in_err-rear-2-clause-empty
returns-in_err-rear-2-clause-empty g c =
    let r = c.args.self.now in
    let date = c.args.date in
    let inv = c.loop-later.invariant in
    let later = later_told (g.M.Medium.state c.loop-later.medium).image r inv.shape (λ x is. omega (arith, c.requires.fits, inv.moments.size, (g.met.M.Medium.coherent c.loop-later.medium).sized x is)) c.loop-later.rear date c.loop-later.later inv.later inv.known in
    if_told (g.M.Medium.state c.args.medium.now).image _ (λ x was h. absurd (none_later r date c.loop-later.later c.loop-later-test.true x was h
    (at_image (λ x. HoldsDays r x [] → Reads (g.M.Medium.state c.args.medium.now) (g.M.Medium.state c.loop-later.medium) false) was inv.empty h) later))

pub returns-in_err-rear-clause-writes : goal.returns-in_err-rear-clause-writes
returns-in_err-rear-clause-writes g c = if_told (g.M.Medium.state c.args.medium.now).image _ (λ x was days h. omega (arith, c.in_err-rear.ensures.reads.clock, until_short c.args.date days))

pub returns-in_err-rear-2-clause-writes : goal.returns-in_err-rear-2-clause-writes
returns-in_err-rear-2-clause-writes g c =
    let inv = c.loop-later.invariant in
    if_told (g.M.Medium.state c.args.medium.now).image _ (λ x was days h.
    let now = told_too (g.M.Medium.state c.args.medium.now).image (g.M.Medium.state c.loop-later.medium).image x (sym inv.moments.tells) was in
    omega (
      arith,
      inv.most,
      c.drop_newest.ensures.most,
      drops_few c.args.self.now c.args.date c.loop-later.count x now.0
          (at_image (IsTrimming c.args.self.now c.args.date c.loop-later.count x) now.1 (at_image (λ x. IfSome (g.M.Medium.state c.loop-later.medium).image (IsTrimming c.args.self.now c.args.date c.loop-later.count x)) was inv.made)) days h,
    ))

pub returns-else-count-lt-DAYS_MOST-clause-writes : goal.returns-else-count-lt-DAYS_MOST-clause-writes
returns-else-count-lt-DAYS_MOST-clause-writes g c = from_told (g.M.Medium.state c.args.medium.now).image _ _ (returns-else-count-lt-DAYS_MOST-clause-dropped g c).drops (λ x was few days h. omega (arith, few days h))

pub returns-after-loop-later-clause-writes : goal.returns-after-loop-later-clause-writes
returns-after-loop-later-clause-writes g c = from_told (g.M.Medium.state c.args.medium.now).image _ _ (returns-after-loop-later-clause-dropped g c).drops (λ x was few days h. omega (arith, few days h))
