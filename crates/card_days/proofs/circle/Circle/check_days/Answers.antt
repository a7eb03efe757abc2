use Rattle.std.proofs.Common.{◌≡◌, ◌<◌, ◌≤◌, ◌+◌, ℕ, List, Option, Some, IfSome, Result, length, arith, refl, sym, ◌∙◌, ap, subst}
use Rattle.std.specs.Prelude.{IfErr}
use Rattle.tach_media.proofs.Runs.{both_told, reads_then, no_reads}
use Rattle.card_model.specs.Image.{IsStringShape, IsPointer, IsPlace, HoldsDays, turned, string_of, spot, oldest_pointer, newest_pointer, circle_of}
use Rattle.card_model.specs.Walk.{days_of}
use Rattle.card_model.specs.Checks.{first_failing, day_checks}
use Rattle.card_days.specs.declared.fault.DaysFault.{DaysFault}
use Rattle.card_days.specs.Loading.{IfBadDays, IsRecord, FailsAt}
use Rattle.card_days.proofs.LoadWalk.{IsWalked, walked_none, from_place, walked_bad, walked_past, walked_next, walked_holds}
use Rattle.card_days.proofs.Told.{if_told, err_is, bad_weaker}
use Rattle.card_days.proofs.circle.Circle.check_days.Goals as goal

pub loop-head-init : goal.loop-head-init
loop-head-init g c = record {
  within = omega arith;
  even = refl;
  walked = if_told (g.M.Medium.state c.args.medium.now).image _ (λ x was shape is. walked_none c.args.self.now shape x c.args.reach);
  reads = no_reads (g.M.Medium.state c.args.medium.now) c.requires.works;
}

pub loop-head-preserved : goal.loop-head-preserved
loop-head-preserved g c =
    let r = c.args.self.now in
    let o = c.args.oldest in
    let k = c.loop-head.so_far in
    let inv = c.loop-head.invariant in
    let h = c.in_ok-head.head in
    let image = (g.M.Medium.state c.args.medium.now).image in
    let one_too = subst (λ (m : Option (List ℕ)). IfSome m (λ x. IsRecord r.size c.loop-head.so_far c.loop-head.before c.loop-head.date (turned (spot r.size o c.loop-head.so_far) (string_of r x)) h)) (inv.reads.same refl) c.in_ok-head.ensures.record in
    record {
      within = omega (arith, c.if-so_far-len.false);
      even = omega (arith, inv.even, c.in_ok-head.ensures.len.0);
      walked = both_told image (λ x. IsStringShape r → o ≡ oldest_pointer r x → IsWalked r x c.args.reach (c.loop-head.so_far + h.len) h.len h.date) inv.walked one_too (λ x was walked one shape is.
          let inside : r.base + (4 + r.size) ≤ length x = omega (arith, c.requires.fits, (g.met.M.Medium.coherent c.args.medium.now).sized x was) in
          let below : k < r.size = omega (arith, inv.within, c.requires.below) in
          walked_next r shape x inside c.args.reach k c.loop-head.before c.loop-head.date below (walked shape is) h
          (subst (λ (l : List ℕ). IsRecord r.size k c.loop-head.before c.loop-head.date l h) (from_place r shape x inside o k is c.requires.pointer below inv.even) one)
          c.if-so_far-reach.false (omega (arith, c.if-so_far-len.false)) c.requires.below);
      reads = reads_then inv.reads c.in_ok-head.ensures.reads;
    }

pub returns-then-so_far-reach-clause-days : goal.returns-then-so_far-reach-clause-days
returns-then-so_far-reach-clause-days g c =
    let r = c.args.self.now in
    let o = c.args.oldest in
    let k = c.loop-head.so_far in
    let inv = c.loop-head.invariant in
    let h = c.in_ok-head.head in
    let image = (g.M.Medium.state c.args.medium.now).image in
    let one_too = subst (λ (m : Option (List ℕ)). IfSome m (λ x. IsRecord r.size c.loop-head.so_far c.loop-head.before c.loop-head.date (turned (spot r.size o c.loop-head.so_far) (string_of r x)) h)) (inv.reads.same refl) c.in_ok-head.ensures.record in
    both_told image (λ x. o ≡ oldest_pointer r x → IsPointer r.size (newest_pointer r x) → IsPlace r.size o c.args.reach (newest_pointer r x) → HoldsDays r x (days_of r x)) inv.walked one_too (λ x was walked one is newest place.
    let shape = c.in_ok-head.ensures.shape in
    let inside : r.base + (4 + r.size) ≤ length x = omega (arith, c.requires.fits, (g.met.M.Medium.coherent c.args.medium.now).sized x was) in
    let below : k < r.size = omega (arith, inv.within, c.requires.below) in
    walked_holds r shape x inside c.args.reach k c.loop-head.before c.loop-head.date below (walked shape is) h
    (subst (λ (l : List ℕ). IsRecord r.size k c.loop-head.before c.loop-head.date l h) (from_place r shape x inside o k is c.requires.pointer below inv.even) one)
    c.if-so_far-reach.true (subst (λ (p : ℕ). IsPointer r.size p) is c.requires.pointer) newest (subst (λ (p : ℕ). IsPlace r.size p c.args.reach (newest_pointer r x)) is place))

pub returns-then-so_far-len-clause-bad : goal.returns-then-so_far-len-clause-bad
returns-then-so_far-len-clause-bad g c =
    let r = c.args.self.now in
    let o = c.args.oldest in
    let k = c.loop-head.so_far in
    let inv = c.loop-head.invariant in
    let h = c.in_ok-head.head in
    let image = (g.M.Medium.state c.args.medium.now).image in
    let one_too = subst (λ (m : Option (List ℕ)). IfSome m (λ x. IsRecord r.size c.loop-head.so_far c.loop-head.before c.loop-head.date (turned (spot r.size o c.loop-head.so_far) (string_of r x)) h)) (inv.reads.same refl) c.in_ok-head.ensures.record in
    both_told image (λ x. o ≡ oldest_pointer r x → first_failing (day_checks 984 r.size o c.args.reach 0 0 0 (circle_of r x)) ≡ Some 2) inv.walked one_too (λ x was walked one is.
    let shape = c.in_ok-head.ensures.shape in
    let inside : r.base + (4 + r.size) ≤ length x = omega (arith, c.requires.fits, (g.met.M.Medium.coherent c.args.medium.now).sized x was) in
    let below : k < r.size = omega (arith, inv.within, c.requires.below) in
    ap (λ (p : ℕ). first_failing (day_checks 984 r.size p c.args.reach 0 0 0 (circle_of r x))) is
    ∙ walked_past r shape x inside c.args.reach k c.loop-head.before c.loop-head.date below (walked shape is) h
    (subst (λ (l : List ℕ). IsRecord r.size k c.loop-head.before c.loop-head.date l h) (from_place r shape x inside o k is c.requires.pointer below inv.even) one)
    c.if-so_far-reach.false (omega (arith, c.if-so_far-len.true)))

pub returns-in_err-head-clause-bad : goal.returns-in_err-head-clause-bad
returns-in_err-head-clause-bad g c =
    let r = c.args.self.now in
    let o = c.args.oldest in
    let k = c.loop-head.so_far in
    let inv = c.loop-head.invariant in
    let image = (g.M.Medium.state c.args.medium.now).image in
    let f = c.in_err-head.field-0.0 in
    subst (λ (res : Result (Unit {0}) DaysFault). IfErr res (λ e. IfBadDays e (λ p. IfSome image (λ x. o ≡ oldest_pointer r x → first_failing (day_checks 984 r.size o c.args.reach 0 0 0 (circle_of r x)) ≡ Some p)))) (sym (err_is c.from_residual.result f c.from_residual.ensures.1))
    (bad_weaker f _ _ c.in_err-head.ensures.bad (λ p bad.
    let bad_too = subst (λ (m : Option (List ℕ)). IfSome m (λ x. FailsAt r.size o c.loop-head.so_far c.loop-head.before c.loop-head.date (turned (spot r.size o c.loop-head.so_far) (string_of r x)) p)) (inv.reads.same refl) bad in
    both_told image (λ x. o ≡ oldest_pointer r x → first_failing (day_checks 984 r.size o c.args.reach 0 0 0 (circle_of r x)) ≡ Some p) inv.walked bad_too (λ x was walked fails is.
    let shape = c.check_day.ensures.shape in
    let inside : r.base + (4 + r.size) ≤ length x = omega (arith, c.requires.fits, (g.met.M.Medium.coherent c.args.medium.now).sized x was) in
    let below : k < r.size = omega (arith, inv.within, c.requires.below) in
    ap (λ (p : ℕ). first_failing (day_checks 984 r.size p c.args.reach 0 0 0 (circle_of r x))) is
    ∙ walked_bad r shape x inside c.args.reach k c.loop-head.before c.loop-head.date below (walked shape is) p
    (subst (λ (q : ℕ). FailsAt r.size q k c.loop-head.before c.loop-head.date (turned k (circle_of r x)) p) is
    (subst (λ (l : List ℕ). FailsAt r.size o k c.loop-head.before c.loop-head.date l p) (from_place r shape x inside o k is c.requires.pointer below inv.even) fails)))))
