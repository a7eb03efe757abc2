use Rattle.std.proofs.Common.{ℕ, replicate, ap, arith, refl, ◌∙◌}
use Rattle.tach_media.proofs.Images.{partly_at}
use Rattle.tach_media.proofs.Ranges.{lies_part}
use Rattle.std.proofs.lemmas.Result.{on_ok_weaker}
use Rattle.tach_media.proofs.Runs.{weaken, where_told, turned_into}
use Rattle.tach_media.specs.Medium.{put}
use Rattle.gated_ring.specs.Change.{IsClosed}
use Rattle.gated_ring.proofs.Putting.{closed, closing}
use Rattle.gated_ring.proofs.ring.Ring.close_gate.Goals as goal

pub write_at-requires-clause-writable : goal.write_at-requires-clause-writable
write_at-requires-clause-writable g c = lies_part _ _ _ _ _ (omega (arith, c.gate_place.ensures.place)) (omega (arith, c.gate_place.ensures.place)) c.requires.writable

pub returns-clause-closed : goal.returns-clause-closed
returns-clause-closed g c =
    let r = c.args.self.now in
    let i = c.args.index in
    on_ok_weaker c.write_at.result (λ so. where_told (g.M.Medium.state c.args.medium.now).image _ (IsClosed r i) (λ x y was is.
    closed r c.gate_place.ensures.shape x (omega (arith, c.requires.fits, (g.met.M.Medium.coherent c.args.medium.now).sized x was)) i c.requires.index y
    (turned_into (put c.gate_place.result (replicate 4 0)) so was is ∙ ap (λ (p : ℕ). put p (replicate 4 0) x) c.gate_place.ensures.place))) c.write_at.ensures.written

pub returns-clause-moments : goal.returns-clause-moments
returns-clause-moments g c =
    let r = c.args.self.now in
    let i = c.args.index in
    weaken c.write_at.ensures.moments (λ x d was part.
    closing r c.gate_place.ensures.shape x (omega (arith, c.requires.fits, (g.met.M.Medium.coherent c.args.medium.now).sized x was)) i c.requires.index d
    (partly_at c.gate_place.ensures.place refl part))
