use Rattle.std.proofs.Common.{◌≡◌, ◌∙◌, List, length, ap, sym, arith}
use Rattle.minute_rules.specs.declared.counted.Counted.{Counted}
use Rattle.minute_rules.specs.Kept.{Kept}
use Rattle.minute_rules.proofs.GoingOn.{same_by_parts}
use Rattle.minute_rules.proofs.minutes.Minutes.is_as.Goals as goal

pub differ-requires : goal.differ-requires
differ-requires c =
    let ours = ap (λ (l : List Counted). length l) c.as_slice-past.ensures.value in
    let theirs = ap (λ (l : List Counted). length l) c.as_slice-theirs.ensures.value in
    omega (arith, ours, theirs)

-- the minutes before are the same, and the rest
pub returns : goal.returns
returns c =
    let one : Kept = c.args.self.now in
    let other : Kept = c.args.other.now in
    let ours : c.as_slice-past.result.now ≡ one.past = c.as_slice-past.ensures.value ∙ ap (λ (k : Kept). k.past) c.self.view_is in
    let theirs : c.as_slice-theirs.result.now ≡ other.past = c.as_slice-theirs.ensures.value ∙ ap (λ (k : Kept). k.past) c.other.view_is in
    let pasts : one.past ≡ other.past = sym ours ∙ c.if-differ.ensures ∙ theirs in
    let full : length one.past ≡ 5 = ap length (ap (λ (k : Kept). k.past) (sym c.self.view_is)) ∙ (let many : length c.self.inside.past.items ≡ 5 = omega arith in many) in
    (same_by_parts one other (sym c.moment-moment.ensures ∙ c.if-moments_differ.ensures ∙ c.moment-others.ensures) pasts, full)
