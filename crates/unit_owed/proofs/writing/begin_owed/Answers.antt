use Rattle.std.proofs.Common.{◌≡◌, ℕ, List, Option, option_map, subst, sym, arith}
use Rattle.tach_media.proofs.Runs.{weaken, where_told, turned_into, settled_now, on_ok}
use Rattle.tach_media.specs.Plan.{put_all}
use Rattle.unit_model.proofs.Sized.{unit_sized}
use Rattle.unit_owed.specs.Owed.{rows_in}
use Rattle.unit_owed.specs.Rows.{beginning, IsRowBegun}
use Rattle.unit_owed.proofs.Beginning.{beginning_moment, begun_end}
use Rattle.unit_owed.proofs.writing.begin_owed.Goals as goal

pub returns-clause-moments : goal.returns-clause-moments
returns-clause-moments g c =
    weaken c.write_row.ensures.puts.leaves (λ x d was here.
    beginning_moment c.args.number.now c.args.session (option_map (λ s. s.now) c.args.spared) x (unit_sized (g.met.M.Medium.coherent c.args.unit.now) c.requires.unit x was)
    c.requires.number c.requires.session c.write_row.ensures.session d here)

pub returns-clause-begun : goal.returns-clause-begun
returns-clause-begun g c =
    let number = c.args.number.now in
    let session = c.args.session in
    let spared : Option (List ℕ) = option_map (λ s. s.now) c.args.spared in
    on_ok c.write_row.result (λ fine. where_told (g.M.Medium.state c.args.unit.now).image (g.M.Medium.state c.write_row.new.unit).image (IsRowBegun number session spared) (λ x y was now.
    let same : y ≡ put_all (beginning number session spared (rows_in x)) x = turned_into (λ z. put_all (beginning number session spared (rows_in z)) z) (c.write_row.ensures.puts.written fine) was now in
    subst (IsRowBegun number session spared x) (sym same)
    (begun_end number session spared x (unit_sized (g.met.M.Medium.coherent c.args.unit.now) c.requires.unit x was) c.requires.number c.requires.session c.write_row.ensures.session)))

pub returns-clause-settled : goal.returns-clause-settled
returns-clause-settled g c = on_ok c.write_row.result (λ fine. settled_now c.write_row.ensures.puts fine (omega arith))
