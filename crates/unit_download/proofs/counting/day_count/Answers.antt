use Rattle.std.proofs.Common.{ℕ, List, length, ap, subst, arith}
use Rattle.std.proofs.lemmas.List.{length-drop}
use Rattle.unit_messages.specs.Reading.{IsReadAs, BeginsNoMessage}
use Rattle.unit_download.proofs.Reading.{rest-is, at-first, at-next, at-some, at-end, one-most}
use Rattle.unit_download.proofs.counting.day_count.Goals as goal

pub loop-place-init : goal.loop-place-init
loop-place-init c = record { inside = omega arith; few = omega arith; at = λ messages file. at-first messages c.args.b.now file }

pub returns-in_default : goal.returns-in_default
returns-in_default c = λ messages file.
    at-some messages c.args.b.now c.loop-place.place c.loop-place.days (c.loop-place.invariant.at messages file) c.loop-place-test.true (subst BeginsNoMessage (rest-is c.args.b.now c.loop-place.place) c.in_default.ensures.bad.1)

pub loop-place-preserved : goal.loop-place-preserved
loop-place-preserved c =
    let v = c.loop-place.invariant in
    let inside = c.in-Ok.ensures.inside in
    let some = c.in-Ok.ensures.some in
    record {
      inside = omega (arith, inside, ap (λ (l : List ℕ). length l) (rest-is c.args.b.now c.loop-place.place), length-drop c.loop-place.place c.args.b.now, c.loop-place-test.true);
      few = omega (arith, v.few, some, c.days_in-days.ensures, one-most c.in-Ok.read.request);
      at = λ messages file. rw c.days_in-days.ensures
          (at-next messages c.args.b.now c.loop-place.place c.loop-place.days c.in-Ok.read (v.at messages file) c.loop-place-test.true (subst (λ (l : List ℕ). IsReadAs l c.in-Ok.read) (rest-is c.args.b.now c.loop-place.place) c.in-Ok.ensures.read));
    }

pub returns : goal.returns
returns c = λ messages file. at-end messages c.args.b.now c.loop-place.place c.loop-place.days (c.loop-place.invariant.at messages file) (omega (arith, c.loop-place-test.false))
