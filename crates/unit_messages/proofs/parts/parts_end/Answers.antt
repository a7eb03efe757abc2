use Rattle.std.proofs.Common.{◌≡◌, ℕ, ◌+◌, ◌<◌, length, get_or, List, ◌∷◌, drop, sym, ◌∙◌, ap, arith}
use Rattle.std.specs.Prelude.{option_and_then}
use Rattle.std.proofs.lemmas.List.{drop_more, drop_all}
use Rattle.unit_messages.specs.declared.parts.Part.{Part}
use Rattle.unit_messages.specs.Parts.{parts_end, most_of}
use Rattle.unit_messages.proofs.parts.parts_end.Goals as goal

-- the parts from an index on, by the one that stands there
rest_is : (parts : List Part) (i : ℕ) (p : Part) → i < length parts → p ≡ get_or parts i p → drop i parts ≡ p ∷ drop (i + 1) parts
rest_is parts i p low is = drop_more parts i p low ∙ ap (λ (q : Part). q ∷ drop (i + 1) parts) (sym is)

pub loop-i-preserved : goal.loop-i-preserved
loop-i-preserved c =
    let b = c.args.bytes.now in
    let i = c.loop-i.i in
    let was = c.loop-i.invariant in
    let rest = drop (i + 1) c.args.parts.now in
    let here = rest_is c.args.parts.now i c.part_at-part.result c.loop-i-test.true (c.part_at-part.ensures c.part_at-part.result) in
    record {
      so_far = was.so_far ∙ ap (λ (l : List Part). parts_end b l c.loop-i.at) here ∙ ap (option_and_then (parts_end b rest)) (sym c.part_end.ensures.end ∙ c.in-Some.is);
      inside = c.in-Some.ensures.inside;
      near = omega (arith, was.near, c.in-Some.ensures.near, ap most_of here);
    }

pub returns-in-None-clause-end : goal.returns-in-None-clause-end
returns-in-None-clause-end c =
    let b = c.args.bytes.now in
    let i = c.loop-i.i in
    let rest = drop (i + 1) c.args.parts.now in
    let here = rest_is c.args.parts.now i c.part_at-part.result c.loop-i-test.true (c.part_at-part.ensures c.part_at-part.result) in
    sym (c.loop-i.invariant.so_far ∙ ap (λ (l : List Part). parts_end b l c.loop-i.at) here ∙ ap (option_and_then (parts_end b rest)) (sym c.part_end.ensures.end ∙ c.in-None.is))

pub returns-clause-end : goal.returns-clause-end
returns-clause-end c =
    sym (c.loop-i.invariant.so_far ∙ ap (λ (l : List Part). parts_end c.args.bytes.now l c.loop-i.at) (drop_all c.loop-i.i c.args.parts.now (omega arith)))
