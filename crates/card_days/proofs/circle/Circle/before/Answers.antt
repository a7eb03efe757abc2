use Rattle.std.proofs.Common.{◌≡◌, ◌%◌, ◌≤◌, ℕ, List, Option, Some, None, IfSome, arith, refl, sym, ◌∙◌, subst}
use Rattle.std.specs.List.{last_or}
use Rattle.std.proofs.lemmas.Result.{IfOk-weaker}
use Rattle.tach_media.specs.Medium.{bytes_at}
use Rattle.tach_media.proofs.Runs.{both_told, reads_then}
use Rattle.card_model.specs.Bytes.{number}
use Rattle.card_model.specs.Days.{Day}
use Rattle.card_model.specs.Image.{IsAt, IsPlace, at}
use Rattle.card_days.specs.Heads.{day_head, older_heads}
use Rattle.card_days.proofs.HeadWalks.{before_none, before_some}
use Rattle.card_days.proofs.Told.{from_told}
use Rattle.card_days.proofs.circle.Circle.before.Goals as goal

pub returns-then-branch-place-clause-before : goal.returns-then-branch-place-clause-before
returns-then-branch-place-clause-before g c =
    let r = c.args.self.now in
    let p = c.args.head.now.place in
    from_told (g.M.Medium.state c.args.medium.now).image _ _ c.in_ok-oldest.ensures.oldest (λ x was oldest d here.
    before_none r c.in_ok-oldest.ensures.shape x (omega (arith, c.requires.fits, (g.met.M.Medium.coherent c.args.medium.now).sized x was)) p d here c.in_ok-oldest.field-0 oldest
    (c.if-branch-place.true ∙ c.pointer-place.ensures.same here.pointer))

pub returns-clause-before : goal.returns-clause-before
returns-clause-before g c =
    let r = c.args.self.now in
    let p = c.args.head.now.place in
    let place = c.pointer-place.result in
    let o = c.in_ok-oldest.field-0 in
    let q = c.back.result in
    let len = c.in_ok-len.len in
    let first = c.in_ok-oldest.ensures.reads in
    let both = reads_then first c.in_ok-len.ensures.reads in
    let len_too = subst (λ (m : Option (List ℕ)). IfSome m (λ x. number (bytes_at x (at r place) 2) % 2 ≡ 0 → number (bytes_at x (at r place) 2) ≤ 2892 → len ≡ number (bytes_at x (at r place) 2))) (first.same refl) c.in_ok-len.ensures.len in
    IfOk-weaker c.day_at.result _ _ (λ answer there.
    let there_too = subst (λ (m : Option (List ℕ)). IfSome m (λ x. (e : Day) → IsAt r x q e → answer ≡ Some (day_head q e))) (both.same refl) there in
    let read = both_told (g.M.Medium.state c.args.medium.now).image
    (λ x. (number (bytes_at x (at r place) 2) % 2 ≡ 0 → number (bytes_at x (at r place) 2) ≤ 2892 → len ≡ number (bytes_at x (at r place) 2)) × ((e : Day) → IsAt r x q e → answer ≡ Some (day_head q e)))
    len_too there_too (λ x was a b. (a, b)) in
    both_told (g.M.Medium.state c.args.medium.now).image (λ x. (d : Day) (here : IsAt r x p d) → answer ≡ last_or None (older_heads r x p d here)) c.in_ok-oldest.ensures.oldest read (λ x was oldest two d here.
    let same : place ≡ p = c.pointer-place.ensures.same here.pointer in
    before_some r c.in_ok-oldest.ensures.shape x (omega (arith, c.requires.fits, (g.met.M.Medium.coherent c.args.medium.now).sized x was)) p d here o oldest
    (λ is. c.if-branch-place.false (is ∙ sym same)) len q answer
    (subst (λ (k : ℕ). number (bytes_at x (at r k) 2) % 2 ≡ 0 → number (bytes_at x (at r k) 2) ≤ 2892 → len ≡ number (bytes_at x (at r k) 2)) same two.0)
    (subst (λ (k : ℕ). IsPlace r.size q len k) same c.back.ensures.place) c.back.ensures.pointer two.1)) c.day_at.ensures.there
