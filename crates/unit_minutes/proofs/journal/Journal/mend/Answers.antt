use Rattle.std.proofs.lemmas.Grind.{common_steps}
use Rattle.std.proofs.Common.{◌≡◌, length, IfSome, refl, sym, ◌∙◌, ap, subst, rules, arith}
use Rattle.tach_media.proofs.Runs.{weaken, at_image, where_told, turned_into}
use Rattle.unit_model.specs.declared.layout.TheConstants.{IMAGE_SIZE}
use Rattle.unit_model.proofs.Sized.{unit_sized}
use Rattle.unit_minutes.specs.Image.{Notes, Agrees}
use Rattle.unit_minutes.specs.Mends.{IsMendable, IsMended, mended, notes_mended}
use Rattle.unit_minutes.proofs.Behind.{after_run}
use Rattle.unit_minutes.proofs.MendPlan.{mending_put, mending_step, turned_by}
use Rattle.unit_minutes.proofs.Mended.{mend_moment, mend_done, mend_agrees}
use Rattle.unit_minutes.proofs.journal.Journal.mend.Goals as goal

pub returns-in_err-write_mends-clause-moments : goal.returns-in_err-write_mends-clause-moments
returns-in_err-write_mends-clause-moments g c =
    let j = c.args.self.now in
    let q = c.requires in
    weaken c.write_mends.ensures.puts.leaves (λ x d was s.
    let sized : length x ≡ IMAGE_SIZE = unit_sized (g.met.M.Medium.coherent c.args.unit.now) q.unit x was in
    mend_moment j c.write_mends.ensures.shape x sized (at_image (IsMendable j) was q.mendable) d (mending_step j x sized d s))

pub returns-clause-moments : goal.returns-clause-moments
returns-clause-moments g c =
    let j = c.args.self.now in
    let q = c.requires in
    weaken c.write_mends.ensures.puts.leaves (λ x d was s.
    let sized : length x ≡ IMAGE_SIZE = unit_sized (g.met.M.Medium.coherent c.args.unit.now) q.unit x was in
    mend_moment j c.write_mends.ensures.shape x sized (at_image (IsMendable j) was q.mendable) d (mending_step j x sized d s))

pub returns-clause-written : goal.returns-clause-written
returns-clause-written g c =
    let old = g.M.Medium.state c.args.unit.now in
    c.in_ok-write_mends.ensures.puts.written refl ∙ turned_by old.image _ (mended c.args.self.now) (λ x was. mending_put c.args.self.now x (unit_sized (g.met.M.Medium.coherent c.args.unit.now) c.requires.unit x was))

pub returns-clause-mended : goal.returns-clause-mended
returns-clause-mended g c = record {
  notes = ap notes_mended c.self.view_is;
  agrees =
      let j = c.args.self.now in
      let old = g.M.Medium.state c.args.unit.now in
      let new = g.M.Medium.state c.write_mends.new.unit in
      subst (λ (r : Notes). IfSome new.image (Agrees r)) (sym (ap notes_mended c.self.view_is))
      (after_run old.image new.image (mended j) (IsMendable j) (Agrees (notes_mended j)) (returns-clause-written g c) c.requires.mendable (λ x was it.
      mend_agrees j c.write_mends.ensures.shape x (unit_sized (g.met.M.Medium.coherent c.args.unit.now) c.requires.unit x was) it));
  mended =
      let j = c.args.self.now in
      let old = g.M.Medium.state c.args.unit.now in
      where_told old.image _ IsMended (λ x z was is.
      subst (IsMended x) (sym (turned_into (mended j) (returns-clause-written g c) was is)) (mend_done j c.write_mends.ensures.shape x (unit_sized (g.met.M.Medium.coherent c.args.unit.now) c.requires.unit x was) (at_image (IsMendable j) was c.requires.mendable)));
  idle = first_of (search rules, grind (arith, common_steps));
  settled = c.in_ok-write_mends.ensures.puts.settled refl;
}
