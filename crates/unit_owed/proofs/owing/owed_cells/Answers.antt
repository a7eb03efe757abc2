use Rattle.std.proofs.Common.{◌∙◌, ℕ, ◌+◌, List, sym, subst}
use Rattle.activity_codec.specs.declared.entries.Entry.{Entry}
use Rattle.unit_owed.specs.Owed.{cell_in}
use Rattle.unit_owed.specs.Searching.{with_owed, IsSane, AreBelow}
use Rattle.unit_owed.proofs.Sanity.{sane_more}
use Rattle.unit_owed.proofs.Counting.{entries_next}
use Rattle.unit_owed.proofs.owing.owed_cells.Goals as goal

pub loop-cell-preserved : goal.loop-cell-preserved
loop-cell-preserved c =
    let n = c.loop-cell.cell in
    let v = c.loop-cell.invariant in
    let step : List Entry → ℕ → List Entry = λ es i. with_owed c.args.owing.session c.args.owing.after c.args.owing.kept es i (cell_in c.args.rows.now c.args.row i) in
    let next = sane_more c.args.owing.session c.args.owing.after c.args.owing.kept c.loop-cell.owed.items n (record { minute = c.number_at-minute.result; word = c.word_in-word.result }) v.sane v.below in
    record {
      items = c.add_cell.ensures.added ∙ (λ t. with_owed c.args.owing.session c.args.owing.after c.args.owing.kept (v.items t) n (record { minute = c.number_at-minute.ensures.value t; word = c.word_in-word.ensures.value t })) ∙ sym (entries_next step n);
      sane = subst (IsSane c.args.owing.after c.args.owing.kept) (sym c.add_cell.ensures.added) next.0;
      below = subst (AreBelow (n + 1)) (sym c.add_cell.ensures.added) next.1;
      room = c.add_cell.ensures.room;
    }
