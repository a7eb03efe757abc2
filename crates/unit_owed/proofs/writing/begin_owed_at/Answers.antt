use Rattle.std.proofs.Common.{◌≡◌, ◌∙◌, ℕ, Option, subst, sym, ap, arith}
use Rattle.tach_media.proofs.Runs.{weaken, at_image, where_told, turned_into, settled_now, on_ok}
use Rattle.tach_media.specs.Plan.{put_all, IsPartway}
use Rattle.unit_model.proofs.Sized.{unit_sized}
use Rattle.unit_owed.specs.Owed.{rows_in}
use Rattle.unit_owed.specs.Rows.{beginning, pieces_at, row_pieces, IsRowBegun, IsRowFor}
use Rattle.unit_owed.proofs.Beginning.{beginning_moment, begun_end}
use Rattle.unit_owed.proofs.writing.begin_owed_at.Goals as goal

pub returns-clause-moments : goal.returns-clause-moments
returns-clause-moments g c = λ spared at.
    let number = c.args.number.now in
    let session = c.args.session in
    let r = c.args.row in
    weaken c.write_row_at.ensures.puts.leaves (λ x d was here.
    beginning_moment number session spared x (unit_sized (g.met.M.Medium.coherent c.args.unit.now) c.requires.unit x was)
    c.requires.number c.requires.session c.write_row_at.ensures.session d
    (subst (λ (o : Option ℕ). IsPartway (pieces_at number session o) x d) (sym (at_image (IsRowFor r number spared) was at)) here))

pub returns-clause-begun : goal.returns-clause-begun
returns-clause-begun g c = λ spared at.
    let number = c.args.number.now in
    let session = c.args.session in
    let r = c.args.row in
    on_ok c.write_row_at.result (λ fine. where_told (g.M.Medium.state c.args.unit.now).image (g.M.Medium.state c.write_row_at.new.unit).image (IsRowBegun number session spared) (λ x y was now.
    let plain : y ≡ put_all (row_pieces r number session) x = turned_into (λ z. put_all (row_pieces r number session) z) (c.write_row_at.ensures.puts.written fine) was now in
    let same : y ≡ put_all (beginning number session spared (rows_in x)) x = plain ∙ sym (ap (λ (o : Option ℕ). put_all (pieces_at number session o) x) (at_image (IsRowFor r number spared) was at)) in
    subst (IsRowBegun number session spared x) (sym same)
    (begun_end number session spared x (unit_sized (g.met.M.Medium.coherent c.args.unit.now) c.requires.unit x was) c.requires.number c.requires.session c.write_row_at.ensures.session)))

pub returns-clause-settled : goal.returns-clause-settled
returns-clause-settled g c = on_ok c.write_row_at.result (λ fine. settled_now c.write_row_at.ensures.puts fine (omega arith))
