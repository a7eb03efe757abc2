use Rattle.std.proofs.Common.{◌≡◌, ◌+◌, ◌≤◌, ℕ, length, arith, sym, ◌∙◌, ap, subst}
use Rattle.std.proofs.lemmas.Result.{IfOk-weaker}
use Rattle.tach_media.specs.Medium.{bytes_at}
use Rattle.card_model.specs.Image.{StringShape, IsStringShape, IsPlace, string_of}
use Rattle.card_model.proofs.Circle.{turned_part, string_length}
use Rattle.card_model.proofs.Reading.{string_part}
use Rattle.card_days.proofs.Told.{from_told}
use Rattle.card_days.proofs.circle.Circle.two_at.Goals as goal

pub returns-clause-spelled : goal.returns-clause-spelled
returns-clause-spelled g c =
    let r = c.args.self.now in
    let p = c.args.place in
    let k = c.args.distance in
    let q = c.spot.result in
    let shape = subst (λ (s : StringShape). IsStringShape s) c.self.view_is c.self.invariant in
    let base : c.self.inside.base ≡ r.base = ap (λ (s : StringShape). s.base) c.self.view_is in
    IfOk-weaker c.read_two.result _ _ (λ n read. from_told (g.M.Medium.state c.args.medium.now).image _ _ read (λ x was spelled.
    let inside : r.base + (4 + r.size) ≤ length x = omega (arith, c.requires.fits, (g.met.M.Medium.coherent c.args.medium.now).sized x was) in
    let s = string_of r x in
    let s_length : length s ≡ r.size = string_length r x inside in
    let q_fits : q + 2 ≤ r.size = omega (arith, c.spot.ensures.pointer.below, c.spot.ensures.pointer.even, shape.even) in
    turned_part s p k q 2 (omega (arith, c.requires.pointer.below, s_length)) (omega (arith, q_fits, s_length)) (omega (arith, c.requires.most, s_length)) (subst (λ (m : ℕ). IsPlace m p k q) (sym s_length) c.spot.ensures.place)
    ∙ string_part r shape x inside q 2 q_fits ∙ ap (λ (b : ℕ). bytes_at x (b + 4 + q) 2) (sym base) ∙ spelled)) c.read_two.ensures.spelled
