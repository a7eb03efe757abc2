use Rattle.std.proofs.Common.{◌≡◌, ◌∙◌, ◌+◌, ◌*◌, ◌≤◌, List, [], ◌∷◌, ◌++◌, map, take, get_or, refl, sym, ap, subst, arith}
use Rattle.std.specs.List.{AllByRecursion}
use Rattle.std.proofs.lemmas.List.{map-append, take_all, take_more}
use Rattle.minute_rules.specs.declared.counted.Counted.{Counted}
use Rattle.minute_rules.specs.Counted.{Fits, no_second}
use Rattle.minute_rules.specs.Alike.{further}
use Rattle.minute_rules.specs.Kept.{Kept}
use Rattle.minute_rules.proofs.GoingOn.{all-further-fits, further-fits, further-room, fits-at}
use Rattle.minute_rules.proofs.Fitting.{times-most}
use Rattle.minute_rules.proofs.minutes.Minutes.later.Goals as goal

pub further-requires : goal.further-requires
further-requires c =
    let were = c.as_slice-were.result.now in
    let all : AllByRecursion (Fits c.self.inside.next) were = subst (AllByRecursion (Fits c.self.inside.next)) (sym c.as_slice-were.ensures.value) c.self.invariant.0 in
    let fits : Fits c.self.inside.next (get_or were c.loop-i.i no_second) = fits-at c.self.inside.next were c.loop-i.i no_second all (omega arith) in
    let most = times-most (60 * c.args.minutes) c.args.speed (omega (arith, c.ranges.speed.fits)) in
    let next : c.self.inside.next ≡ c.args.self.now.next = ap (λ (k : Kept). k.next) c.self.view_is in
    let limit : c.self.inside.next + 60 * c.args.minutes ≤ 4294967295 = omega (arith, next, c.requires) in
    further-room c.self.inside.next c.args.minutes (60 * c.args.minutes * c.args.speed) (get_or were c.loop-i.i no_second) limit most fits

pub loop-i-preserved : goal.loop-i-preserved
loop-i-preserved c =
    let v = c.loop-i.invariant in
    let i = c.loop-i.i in
    let were = c.as_slice-were.result.now in
    let more = 60 * c.args.minutes * c.args.speed in
    record {
      all = c.push.ensures.items
          ∙ ap (λ (x : Counted). c.loop-i.past.items ++ x ∷ []) c.further.ensures
          ∙ ap (λ (xs : List Counted). xs ++ further more (get_or were i no_second) ∷ []) v.all
          ∙ sym (ap (map (further more)) (take_more were i no_second (omega arith)) ∙ map-append (further more) (take i were) (get_or were i no_second ∷ []));
      many = omega (arith, c.push.ensures.len, v.many);
    }

pub invariant_of-result : goal.invariant_of-result
invariant_of-result c =
    let more = 60 * c.args.minutes * c.args.speed in
    let most = times-most (60 * c.args.minutes) c.args.speed (omega (arith, c.ranges.speed.fits)) in
    let is : c.loop-i.past.items ≡ map (further more) c.self.inside.past.items =
    c.loop-i.invariant.all ∙ ap (map (further more)) (take_all c.loop-i.i c.as_slice-were.result.now (omega arith) ∙ c.as_slice-were.ensures.value) in (
      rw is (all-further-fits c.self.inside.next c.args.minutes more c.self.inside.past.items most c.self.invariant.0),
      rw c.further-2.ensures (further-fits c.self.inside.next c.args.minutes more c.self.inside.here most c.self.invariant.1),
      c.self.invariant.2,
    )

pub returns : goal.returns
returns c =
    let more = 60 * c.args.minutes * c.args.speed in
    let is : c.loop-i.past.items ≡ map (further more) c.self.inside.past.items =
    c.loop-i.invariant.all ∙ ap (map (further more)) (take_all c.loop-i.i c.as_slice-were.result.now (omega arith) ∙ c.as_slice-were.ensures.value) in
    rw (is, c.further-2.ensures, ← c.self.view_is) refl
