use Rattle.std.proofs.Common.{◌≡◌, ℕ, ◌+◌, arith, ◌∙◌, sym, ap, subst}
use Rattle.tach_media.specs.Medium.{bytes_at}
use Rattle.card_model.specs.Image.{StringShape, IsStringShape}
use Rattle.card_model.proofs.Reading.{round_part}
use Rattle.card_days.proofs.Told.{from_told}
use Rattle.card_days.proofs.circle.Circle.twelve_at.Goals as goal

pub returns-clause-bytes : goal.returns-clause-bytes
returns-clause-bytes g c =
    let r = c.args.self.now in
    let p = c.args.place in
    let size : c.self.inside.size ≡ r.size = ap (λ (s : StringShape). s.size) c.self.view_is in
    let base : c.self.inside.base ≡ r.base = ap (λ (s : StringShape). s.base) c.self.view_is in
    from_told (g.M.Medium.state c.args.medium.now).image _ _ c.in_ok-read_at.ensures.bytes (λ x was read.
    read ∙ ap (λ (k : ℕ). bytes_at x (k + 4 + p) 12) base
    ∙ sym (round_part r (subst (λ (s : StringShape). IsStringShape s) c.self.view_is c.self.invariant) x (omega (arith, c.requires.fits, (g.met.M.Medium.coherent c.args.medium.now).sized x was)) p 12 c.requires.pointer.below (omega (arith, size, c.if-self-place-lt12.false, c.requires.pointer.below))))
