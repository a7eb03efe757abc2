use Rattle.std.proofs.Common.{◌≡◌, ◌∙◌, ℕ, List, Option, length, option_map, sym, ap, subst, arith, is_err}
use Rattle.tach_media.specs.Plan.{Pieces, Piece, PutsAll}
use Rattle.tach_media.proofs.Plans.{puts_by}
use Rattle.unit_owed.specs.Owed.{rows_in}
use Rattle.unit_owed.specs.Rows.{pieces_at, beginning, begun_index}
use Rattle.unit_owed.proofs.Finding.{of_told, seven}
use Rattle.unit_owed.proofs.writing.write_row.Goals as goal

pub returns-clause-puts : goal.returns-clause-puts
returns-clause-puts g c =
    let session = c.args.session in
    let number = c.args.number.now in
    let ps : List Piece = pieces_at number session c.begun_index.result in
    let count : length ps ≡ 7 = ap (λ (o : Option ℕ). length (pieces_at number session o)) c.begun_index.ensures.row ∙ seven number session (option_map (λ s. s.now) c.args.spared) c.in_ok-rows.rows in
    let mid = g.M.Medium.state c.read_rows.new.unit in
    let new = g.M.Medium.state c.put_pieces.new.medium in
    let puts : PutsAll mid new (is_err c.put_pieces.result) ps = subst (PutsAll mid new (is_err c.put_pieces.result)) (ap (λ (p : Pieces). p.pieces) c.beginning-plan.ensures.plan) c.put_pieces.ensures.puts in
    puts_by ps (λ x. beginning number session (option_map (λ s. s.now) c.args.spared) (rows_in x)) c.in_ok-rows.ensures.reads
    (of_told (g.M.Medium.state c.args.unit.now).image (λ x. c.in_ok-rows.rows ≡ rows_in x) (λ x. beginning number session (option_map (λ s. s.now) c.args.spared) (rows_in x) ≡ ps) c.in_ok-rows.ensures.rows
    (λ x is. ap (λ (rows : List ℕ). pieces_at number session (begun_index number (option_map (λ s. s.now) c.args.spared) rows)) (sym is) ∙ ap (pieces_at number session) (sym c.begun_index.ensures.row)))
    puts (omega (arith, count)) (omega (arith, count))
