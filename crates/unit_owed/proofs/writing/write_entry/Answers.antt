use Rattle.std.proofs.Common.{◌≡◌, ◌∙◌, ℕ, List, Option, length, sym, ap, subst, arith, is_err}
use Rattle.tach_media.proofs.Runs.{on_ok}
use Rattle.tach_media.specs.Plan.{Pieces, Piece, PutsAll}
use Rattle.tach_media.proofs.Plans.{puts_by}
use Rattle.unit_owed.specs.Owed.{rows_in, row_index}
use Rattle.unit_owed.specs.Rows.{pieces_into, putting}
use Rattle.unit_owed.proofs.Finding.{of_told, few_into}
use Rattle.unit_owed.proofs.writing.write_entry.Goals as goal

pub returns-clause-puts : goal.returns-clause-puts
returns-clause-puts g c =
    let m = c.args.minute in
    let w = c.args.word in
    let number = c.args.number.now in
    let ps : List Piece = pieces_into m w c.row_index.result in
    let mid = g.M.Medium.state c.read_rows.new.unit in
    let new = g.M.Medium.state c.put_pieces.new.medium in
    let puts : PutsAll mid new (is_err c.put_pieces.result) ps = subst (PutsAll mid new (is_err c.put_pieces.result)) (ap (λ (p : Pieces). p.pieces) c.putting-plan.ensures.plan) c.put_pieces.ensures.puts in
    puts_by ps (λ x. putting number m w (rows_in x)) c.in_ok-rows.ensures.reads
    (of_told (g.M.Medium.state c.args.unit.now).image (λ x. c.in_ok-rows.rows ≡ rows_in x) (λ x. putting number m w (rows_in x) ≡ ps) c.in_ok-rows.ensures.rows
    (λ x is. ap (λ (rows : List ℕ). pieces_into m w (row_index number rows)) (sym is) ∙ ap (pieces_into m w) (sym c.row_index.ensures.row)))
    puts (omega arith) (few_into m w c.row_index.result)

-- a number that has a row has its three writes
pub returns-clause-wrote : goal.returns-clause-wrote
returns-clause-wrote g c =
    let m = c.args.minute in
    let w = c.args.word in
    let number = c.args.number.now in
    on_ok c.put_pieces.result (λ fine. of_told (g.M.Medium.state c.args.unit.now).image (λ x. c.in_ok-rows.rows ≡ rows_in x) _ c.in_ok-rows.ensures.rows (λ x is has.
    let three : length (pieces_into m w c.row_index.result) ≡ 3 = ap (λ (o : Option ℕ). length (pieces_into m w o)) (c.row_index.ensures.row ∙ ap (row_index number) is ∙ has.1) in
    omega (arith, c.put_pieces.ensures.puts.begun fine, ap (λ (p : Pieces). length p.pieces) c.putting-plan.ensures.plan, c.in_ok-rows.ensures.reads.clock, three)))
