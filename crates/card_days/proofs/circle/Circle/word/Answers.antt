use Rattle.std.proofs.Common.{◌≡◌, ℕ, arith, sym, ◌∙◌, ap, subst}
use Rattle.std.specs.Prelude.{slice_index}
use Rattle.card_model.specs.Image.{IsAt}
use Rattle.card_model.proofs.Reading.{day_is}
use Rattle.card_days.proofs.Told.{from_told}
use Rattle.card_days.proofs.circle.Circle.word.Goals as goal
use Rattle.card_days.proofs.circle.Circle.word.Goals.{then-index, else-index}

pub returns-clause-word : goal.returns-clause-word
returns-clause-word g c =
    let r = c.args.self.now in
    let p = c.args.head.now.place in
    let i = c.if-index.index in
    from_told (g.M.Medium.state c.args.medium.now).image _ _ c.in_ok-word.ensures.word (λ x was word d here lt.
    let few = (day_is 0 here.older d here.later here.holds.ordered).most in
    let same : c.pointer-place.result ≡ p = c.pointer-place.ensures.same here.pointer in
    let index : c.if-index.index ≡ c.args.index = elim c.if-index.branch [ then-index w ↦ w.index-is | else-index w ↦ absurd (omega (arith, w.if-index.false, lt, few)) ] in
    word d (subst (λ (k : ℕ). IsAt r x k d) (sym same) here) (omega (arith, index, lt)) ∙ ap (λ (k : ℕ). slice_index d.words k) index)
