use Rattle.std.proofs.Common.{◌≡◌, false, None, [], ◌∷◌, ◌++◌, refl, sym, subst, arith, rules}
use Rattle.card_image.specs.card_model.Walk.{days_of}
use Rattle.card_validity.specs.declared.behind.Behind.{Behind}
use Rattle.card_validity.specs.declared.walk.Met.{Met}
use Rattle.card_validity.specs.Words.{HasMet}
use Rattle.card_validity.proofs.Walking.{none_met, next_met, next_are, next_far, next_head, next_small, all_met}
use Rattle.card_validity.proofs.walk.walk.Goals as goal

pub loop-next-init : goal.loop-next-init
loop-next-init c =
    let r = c.args.days.now.shape in
    let x = c.args.image.now in
    record {
      older = [];
      later = days_of r x;
      are = refl;
      so_far = refl;
      next = c.first-next.ensures.first;
      place = c.first-next.ensures.place;
      met = subst (λ (b : Behind). HasMet r x c.args.mark [] (record { behind = b; past = false; cut = None; newest = None })) (sym c.none.ensures) (none_met r x c.args.mark);
    }

pub loop-next-preserved : goal.loop-next-preserved
loop-next-preserved c =
    let r = c.args.days.now.shape in
    let x = c.args.image.now in
    let inv = c.loop-next.invariant in
    let m : Met = record { head = c.in-Some.head; so_far = c.loop-next.so_far } in
    let n = next_met r x c.requires.known inv.older inv.later m c.loop-next.next inv.are inv.so_far inv.next c.in-Some.is in
    record {
      older = inv.older ++ n.day ∷ [];
      later = n.rest;
      are = next_are r x c.requires.known inv.older inv.later m n inv.are;
      so_far = next_far r x c.requires.known inv.older inv.later m n inv.so_far;
      next = next_head r x c.requires.known inv.older inv.later m n c.after-next.result c.after-next.ensures.after;
      place = c.after-next.ensures.place;
      met = c.meet-walked.ensures inv.older n.day n.met inv.met;
    }

pub meet-walked-requires-clause-near : goal.meet-walked-requires-clause-near
meet-walked-requires-clause-near c =
    let inv = c.loop-next.invariant in
    let m : Met = record { head = c.in-Some.head; so_far = c.loop-next.so_far } in
    (next_met c.args.days.now.shape c.args.image.now c.requires.known inv.older inv.later m c.loop-next.next inv.are inv.so_far inv.next c.in-Some.is).met.near

pub overflow_add-so_far-in-Some : goal.overflow_add-so_far-in-Some
overflow_add-so_far-in-Some c =
    let r = c.args.days.now.shape in
    let x = c.args.image.now in
    let inv = c.loop-next.invariant in
    let m : Met = record { head = c.in-Some.head; so_far = c.loop-next.so_far } in
    let n = next_met r x c.requires.known inv.older inv.later m c.loop-next.next inv.are inv.so_far inv.next c.in-Some.is in
    omega (arith, next_small r x c.requires.known inv.older inv.later m n inv.so_far)

pub loop-next-smaller : goal.loop-next-smaller
loop-next-smaller c =
    let r = c.args.days.now.shape in
    let x = c.args.image.now in
    let inv = c.loop-next.invariant in
    let m : Met = record { head = c.in-Some.head; so_far = c.loop-next.so_far } in
    let n = next_met r x c.requires.known inv.older inv.later m c.loop-next.next inv.are inv.so_far inv.next c.in-Some.is in
    omega (arith, next_small r x c.requires.known inv.older inv.later m n inv.so_far)

pub returns : goal.returns
returns c =
    let inv = c.loop-next.invariant in
    let none : c.loop-next.next ≡ None = search rules in
    all_met c.args.days.now.shape c.args.image.now c.requires.known c.args.mark inv.older inv.later c.loop-next.next c.loop-next.walked inv.are inv.next inv.met none
