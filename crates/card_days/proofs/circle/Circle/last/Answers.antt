use Rattle.std.proofs.Common.{◌≡◌, ℕ, List, [], Option, Some, None, IfSome, arith, refl, subst}
use Rattle.std.specs.List.{last_or}
use Rattle.tach_media.proofs.Runs.{both_told}
use Rattle.card_model.specs.Days.{Day}
use Rattle.card_model.specs.Image.{HoldsDays, IsAt, oldest_pointer}
use Rattle.card_days.specs.Heads.{day_head, heads_of}
use Rattle.card_days.proofs.HeadWalks.{last_is}
use Rattle.card_days.proofs.Told.{ok_both}
use Rattle.card_days.proofs.circle.Circle.last.Goals as goal

pub returns-clause-last : goal.returns-clause-last
returns-clause-last g c =
    let r = c.args.self.now in
    let o = c.in_ok-newest.newest in
    let same = c.in_ok-newest.ensures.reads.same refl in
    ok_both c.day_at.result _ _ _ c.day_at.ensures.there c.day_at.ensures.empty (λ answer there empty.
    let there_too = subst (λ (m : Option (List ℕ)). IfSome m (λ x. (d : Day) → IsAt r x o d → answer ≡ Some (day_head o d))) same there in
    let empty_too = subst (λ (m : Option (List ℕ)). IfSome m (λ x. HoldsDays r x [] → oldest_pointer r x ≡ o → answer ≡ None)) same empty in
    let both = both_told (g.M.Medium.state c.args.medium.now).image (λ x. ((d : Day) → IsAt r x o d → answer ≡ Some (day_head o d)) × (HoldsDays r x [] → oldest_pointer r x ≡ o → answer ≡ None)) there_too empty_too (λ x was a b. (a, b)) in
    both_told (g.M.Medium.state c.args.medium.now).image (λ x. (days : List Day) → HoldsDays r x days → answer ≡ last_or None (heads_of r x days)) c.in_ok-newest.ensures.newest both (λ x was newest at_place days h.
    last_is r c.in_ok-newest.ensures.shape x (omega (arith, c.requires.fits, (g.met.M.Medium.coherent c.args.medium.now).sized x was)) days h o answer newest at_place.0 at_place.1))
