use Rattle.std.proofs.Common.{◌≡◌, ◌%◌, ◌<◌, ◌≤◌, ℕ, List, Option, Some, IfSome, arith, refl, sym, ◌∙◌, subst}
use Rattle.std.specs.Prelude.{slice_get}
use Rattle.std.proofs.lemmas.Result.{IfOk-weaker}
use Rattle.tach_media.specs.Medium.{bytes_at}
use Rattle.tach_media.proofs.Runs.{both_told, reads_then}
use Rattle.card_model.specs.Bytes.{number}
use Rattle.card_model.specs.Days.{Day}
use Rattle.card_model.specs.Image.{IsAt, IsPlace, at}
use Rattle.card_days.specs.Heads.{day_head, later_heads}
use Rattle.card_days.proofs.HeadWalks.{after_none, after_some}
use Rattle.card_days.proofs.Told.{from_told}
use Rattle.card_days.proofs.circle.Circle.after.Goals as goal

pub returns-then-branch-place-clause-after : goal.returns-then-branch-place-clause-after
returns-then-branch-place-clause-after g c =
    let r = c.args.self.now in
    let p = c.args.head.now.place in
    from_told (g.M.Medium.state c.args.medium.now).image _ _ c.in_ok-newest.ensures.newest (λ x was newest d here.
    after_none r c.in_ok-newest.ensures.shape x (omega (arith, c.requires.fits, (g.met.M.Medium.coherent c.args.medium.now).sized x was)) p d here c.in_ok-newest.field-0 newest
    (c.if-branch-place.true ∙ c.pointer-place.ensures.same here.pointer))

pub returns-clause-after : goal.returns-clause-after
returns-clause-after g c =
    let r = c.args.self.now in
    let p = c.args.head.now.place in
    let place = c.pointer-place.result in
    let n = c.in_ok-newest.field-0 in
    let q = c.spot.result in
    let len = c.in_ok-len.len in
    let first = c.in_ok-newest.ensures.reads in
    let both = reads_then first c.in_ok-len.ensures.reads in
    let len_too = subst (λ (m : Option (List ℕ)). IfSome m (λ x. (j : ℕ) → IsPlace r.size place 2 j → j < r.size → number (bytes_at x (at r j) 2) % 2 ≡ 0 → number (bytes_at x (at r j) 2) ≤ 2892 → len ≡ number (bytes_at x (at r j) 2))) (first.same refl) c.in_ok-len.ensures.len in
    IfOk-weaker c.day_at.result _ _ (λ answer there.
    let there_too = subst (λ (m : Option (List ℕ)). IfSome m (λ x. (e : Day) → IsAt r x q e → answer ≡ Some (day_head q e))) (both.same refl) there in
    let read = both_told (g.M.Medium.state c.args.medium.now).image
    (λ x. ((j : ℕ) → IsPlace r.size place 2 j → j < r.size → number (bytes_at x (at r j) 2) % 2 ≡ 0 → number (bytes_at x (at r j) 2) ≤ 2892 → len ≡ number (bytes_at x (at r j) 2)) × ((e : Day) → IsAt r x q e → answer ≡ Some (day_head q e)))
    len_too there_too (λ x was a b. (a, b)) in
    both_told (g.M.Medium.state c.args.medium.now).image (λ x. (d : Day) (here : IsAt r x p d) → answer ≡ slice_get (later_heads r x p d here) 0) c.in_ok-newest.ensures.newest read (λ x was newest two d here.
    let same : place ≡ p = c.pointer-place.ensures.same here.pointer in
    after_some r c.in_ok-newest.ensures.shape x (omega (arith, c.requires.fits, (g.met.M.Medium.coherent c.args.medium.now).sized x was)) p d here n newest
    (λ is. c.if-branch-place.false (is ∙ sym same)) len q answer
    (λ j j_place. two.0 j (subst (λ (k : ℕ). IsPlace r.size k 2 j) (sym same) j_place))
    (subst (λ (k : ℕ). IsPlace r.size k len q) same c.spot.ensures.place) c.spot.ensures.pointer two.1)) c.day_at.ensures.there
