use Rattle.std.proofs.Common.{◌∙◌, ℕ, Bool, Option, [], cond, option_map, sym, ap}
use Rattle.unit_owed.specs.Owed.{row_in, owed_of, in_order, counted, cell_entries}
use Rattle.unit_owed.proofs.Counting.{cells_owed, session_true}
use Rattle.unit_owed.proofs.owing.owed_in.Goals as goal

pub returns-then-session_in-owing-clause-items : goal.returns-then-session_in-owing-clause-items
returns-then-session_in-owing-clause-items c =
    let rows = c.args.rows.now in
    let s = c.args.owing.session in
    let row = c.in-Some.row in
    c.owed_cells.ensures.items ∙ cells_owed s c.args.owing.after c.args.owing.kept rows row
    ∙ sym (ap (λ (b : Bool). cond b (in_order (counted s c.args.owing.after c.args.owing.kept (cell_entries 0 (row_in rows row).cells))) []) (session_true _ _ _ c.session_in.ensures.session c.if-session_in-owing.true))
    ∙ sym (ap (λ (o : Option ℕ). owed_of s c.args.owing.after c.args.owing.kept (option_map (row_in rows) o)) c.in-Some.is)
