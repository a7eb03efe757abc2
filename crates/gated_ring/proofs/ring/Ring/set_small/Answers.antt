use Rattle.std.proofs.lemmas.Grind.{common_steps}
use Rattle.std.proofs.Common.{◌+◌, ℕ, ap, arith, refl, ◌∙◌, rules}
use Rattle.tach_media.proofs.Images.{partly_at}
use Rattle.tach_media.proofs.Ranges.{lies_part}
use Rattle.std.proofs.lemmas.Result.{on_ok_weaker}
use Rattle.tach_media.proofs.Runs.{weaken, where_told, turned_into}
use Rattle.tach_media.specs.Medium.{put}
use Rattle.gated_ring.specs.Change.{IsSet}
use Rattle.gated_ring.proofs.Putting.{set, setting}
use Rattle.gated_ring.proofs.ring.Ring.set_small.Goals as goal

pub write_at-requires-clause-writable : goal.write_at-requires-clause-writable
write_at-requires-clause-writable g c = lies_part _ _ _ _ _ (omega (arith, c.place_of.ensures.place)) (omega (arith, c.place_of.ensures.place)) c.requires.writable

pub returns-clause-alters : goal.returns-clause-alters
returns-clause-alters g c = record {
  done =
      let r = c.args.self.now in
      let i = c.args.index in
      let offset = c.args.offset in
      let bytes = c.args.bytes.now in
      let q = c.requires in
      on_ok_weaker c.write_at.result (λ so. where_told (g.M.Medium.state c.args.medium.now).image _ (IsSet r i offset bytes) (λ x y was is.
      set r c.place_of.ensures.shape x (omega (arith, q.fits, (g.met.M.Medium.coherent c.args.medium.now).sized x was)) i q.index offset bytes q.few q.width q.apart y
      (turned_into (put (c.place_of.result + offset) bytes) so was is ∙ ap (λ (p : ℕ). put (p + offset) bytes x) c.place_of.ensures.place))) c.write_at.ensures.written;
  moments =
      let r = c.args.self.now in
      let i = c.args.index in
      let offset = c.args.offset in
      let bytes = c.args.bytes.now in
      let q = c.requires in
      weaken c.write_at.ensures.moments (λ x d was part.
      setting r c.place_of.ensures.shape x (omega (arith, q.fits, (g.met.M.Medium.coherent c.args.medium.now).sized x was)) i q.index offset bytes q.few q.width q.apart d
      (partly_at (ap (λ (p : ℕ). p + offset) c.place_of.ensures.place) refl part));
  settled = first_of (search rules, grind (arith, common_steps));
  cause = first_of (search rules, grind (arith, common_steps));
  most = first_of (search rules, grind (arith, common_steps));
}
