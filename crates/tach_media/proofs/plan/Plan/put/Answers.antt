use Rattle.std.proofs.Common.{rules, arith, ◌≡◌, ◌++◌, ◌∷◌, [], map, ap, sym, subst}
use Rattle.std.proofs.lemmas.List.{map-append}
use Rattle.std.specs.List.{AllByRecursion}
use Rattle.tach_media.specs.Held.{piece_of}
use Rattle.tach_media.specs.Plan.{Pieces, piece, IsInside}
use Rattle.tach_media.proofs.Looping.{inside_more}
use Rattle.tach_media.proofs.plan.Plan.put.Goals as goal

pub invariant_of-self : goal.invariant_of-self
invariant_of-self g c =
    let q = c.requires in
    let p = piece c.args.place c.args.bytes.now in
    let before = map piece_of c.self.inside.pieces.items in
    let held : map piece_of c.push.new.self.items ≡ before ++ p ∷ [] = search (rules, map-append) in
    let was = c.self.invariant in
    let here : IsInside c.self.inside.from c.self.inside.end p = record { some = q.some; short = q.at_once; behind = omega (arith, q.behind, ap (λ (v : Pieces). v.from) c.self.view_is); inside = omega (arith, q.inside, ap (λ (v : Pieces). v.end) c.self.view_is) } in
    subst (AllByRecursion (IsInside c.self.inside.from c.self.inside.end)) (sym held) (inside_more before p was here)
