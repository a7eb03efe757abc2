use Rattle.std.proofs.Common.{◌≡◌, ◌∙◌, ◌∷◌, ◌++◌, [], true, false, None, refl, sym, subst, arith}
use Rattle.std.specs.Prelude.{Bool}
use Rattle.std.specs.Bool.{OnTrue}
use Rattle.file_view.specs.CardFiles.{may_follow}
use Rattle.file_view.specs.Reading.{told_at, FoundInFile}
use Rattle.file_view.proofs.Fronts.{front_none, front_more, stops_unfit, stops_none, stops_lacking, front_whole}
use Rattle.file_view.proofs.parts.Parts.read.Goals as goal

pub loop-place-init : goal.loop-place-init
loop-place-init c = record {
  inside = omega arith;
  sound = λ app is. absurd (cc);
  front = front_none c.args.b.now (record { app = None; days = None; vehicles = None }) refl refl refl;
}

pub loop-place-preserved : goal.loop-place-preserved
loop-place-preserved c =
    let front = c.loop-place.invariant.front in
    let here = c.in-Some.ensures.some in
    let yes : c.take.result ≡ true = grind (arith, c.if-not-take.false) in
    let follows : may_follow front.entries (told_at c.args.b.now c.in-Some.entry) ≡ true = sym (c.take.ensures.follows front.entries front.stands) ∙ yes in
    let taken = subst (λ (b : Bool). OnTrue b (FoundInFile c.args.b.now c.take.new.self (front.entries ++ told_at c.args.b.now c.in-Some.entry ∷ []))) yes (c.take.ensures.taken front.entries front.stands) in
    record {
      inside = omega (arith, here.inside);
      sound = c.take.ensures.sound;
      front = front_more c.args.b.now c.loop-place.place c.loop-place.found front c.in-Some.entry c.take.new.self here follows taken;
    }

pub returns-in_default-clause-bad : goal.returns-in_default-clause-bad
returns-in_default-clause-bad c = stops_none c.args.b.now c.loop-place.place c.loop-place.found c.loop-place.invariant.front (omega (arith, c.loop-place-test.true)) c.in_default.ensures.none

pub returns-then-not-take-clause-bad : goal.returns-then-not-take-clause-bad
returns-then-not-take-clause-bad c =
    let front = c.loop-place.invariant.front in
    let no : c.take.result ≡ false = grind (arith, c.if-not-take.true) in
    stops_unfit c.args.b.now c.loop-place.place c.loop-place.found front c.in-Some.entry c.in-Some.ensures.some (sym (c.take.ensures.follows front.entries front.stands) ∙ no)

pub returns-in-Some-whole-clause-parts : goal.returns-in-Some-whole-clause-parts
returns-in-Some-whole-clause-parts c =
    let parts = c.in-Some-whole.parts in
    let of = c.in-Some-whole.ensures.some in
    front_whole c.args.b.now c.loop-place.place c.loop-place.found c.loop-place.invariant.front (omega (arith, c.loop-place-test.false)) parts.app parts.days parts.vehicles of.0 of.1 of.2 (c.loop-place.invariant.sound parts.app of.0)

pub returns-in-None-clause-bad : goal.returns-in-None-clause-bad
returns-in-None-clause-bad c = stops_lacking c.args.b.now c.loop-place.place c.loop-place.found c.loop-place.invariant.front (omega (arith, c.loop-place-test.false)) c.loop-place.invariant.inside c.in-None.ensures.none
