use Rattle.std.proofs.Common.{◌+◌, ◌≤◌, ◌++◌, Some, take, length, arith, ap, ◌∙◌}
use Rattle.card_model.specs.Days.{len_of, records}
use Rattle.card_model.proofs.Lists.{previous_of}
use Rattle.card_model.proofs.Reading.{day_is, from_day}
use Rattle.card_days.proofs.HeadLemmas.{len_is, head_is}
use Rattle.card_days.proofs.Told.{from_told}
use Rattle.card_days.proofs.circle.Circle.day_at.Goals as goal

pub returns-then-head-eq0-clause-there : goal.returns-then-head-eq0-clause-there
returns-then-head-eq0-clause-there g c =
    let r = c.args.self.now in
    let p = c.args.place in
    let h = c.in_ok-head.head in
    from_told (g.M.Medium.state c.args.medium.now).image _ _ c.in_ok-head.ensures.head (λ x was same d here.
    let inside : r.base + (4 + r.size) ≤ length x = omega (arith, c.requires.fits, (g.met.M.Medium.coherent c.args.medium.now).sized x was) in
    let spelled = from_day r c.head_at.ensures.shape x inside p d here in
    absurd (omega (arith, len_is h (previous_of here.holds.previous here.older) d ((records (len_of d) here.later ++ here.holds.rest) ++ records here.holds.previous here.older) (same ∙ ap (take 12) spelled), c.if-head-eq0.true)))

pub returns-clause-there : goal.returns-clause-there
returns-clause-there g c =
    let r = c.args.self.now in
    let p = c.args.place in
    let h = c.in_ok-head.head in
    from_told (g.M.Medium.state c.args.medium.now).image _ _ c.in_ok-head.ensures.head (λ x was same d here.
    let inside : r.base + (4 + r.size) ≤ length x = omega (arith, c.requires.fits, (g.met.M.Medium.coherent c.args.medium.now).sized x was) in
    let spelled = from_day r c.head_at.ensures.shape x inside p d here in
    let is = day_is 0 here.older d here.later here.holds.ordered in
    ap Some (c.at.ensures ∙ head_is h (previous_of here.holds.previous here.older) d ((records (len_of d) here.later ++ here.holds.rest) ++ records here.holds.previous here.older) (same ∙ ap (take 12) spelled) p is))
