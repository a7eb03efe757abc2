use Rattle.std.proofs.Common.{◌≡◌, ◌<◌, ◌∙◌, ℕ, Option, subst, sym, ap, is_err, arith}
use Rattle.tach_media.proofs.Runs.{weaken, at_image, where_told, turned_into, settled_now, on_ok}
use Rattle.tach_media.specs.Plan.{PutsAll, put_all, IsPartway}
use Rattle.unit_model.specs.Days.{word_minute}
use Rattle.unit_model.proofs.Sized.{unit_sized}
use Rattle.unit_owed.specs.Owed.{rows_in}
use Rattle.unit_owed.specs.Rows.{entry_word, cell_pieces, pieces_into, putting, OwedRowHas, IsRowAt}
use Rattle.unit_owed.proofs.Putting.{putting_moment, put_end}
use Rattle.unit_owed.proofs.writing.put_owed_at.Goals as goal

pub returns-clause-puts : goal.returns-clause-puts
returns-clause-puts g c =
    subst (λ (w : ℕ). PutsAll (g.M.Medium.state c.args.unit.now) (g.M.Medium.state c.write_into.new.unit) (is_err c.write_into.result) (cell_pieces c.args.row c.args.entry.now.minute w)) c.entry_word.ensures.word c.write_into.ensures.puts

pub returns-clause-moments : goal.returns-clause-moments
returns-clause-moments g c = λ n at.
    let e = c.args.entry.now in
    let r = c.args.row in
    let is = c.entry_word.ensures.word in
    weaken c.write_into.ensures.puts.leaves (λ x d was here.
    let mine = at_image (IsRowAt r n) was at in
    putting_moment n e x (unit_sized (g.met.M.Medium.coherent c.args.unit.now) c.requires.unit x was) r mine c.write_into.ensures.minute
    (subst (λ (w : ℕ). w < 65536) is c.write_into.ensures.word) (subst (λ (w : ℕ). word_minute w < 1440) is c.entry_word.ensures.minute) d
    (subst (λ (o : Option ℕ). IsPartway (pieces_into e.minute (entry_word e) o) x d) (sym mine) (subst (λ (w : ℕ). IsPartway (cell_pieces r e.minute w) x d) is here)))

pub returns-clause-put : goal.returns-clause-put
returns-clause-put g c = λ n at.
    let e = c.args.entry.now in
    let r = c.args.row in
    let is = c.entry_word.ensures.word in
    on_ok c.write_into.result (λ fine. where_told (g.M.Medium.state c.args.unit.now).image (g.M.Medium.state c.write_into.new.unit).image (OwedRowHas n e) (λ x y was now.
    let mine = at_image (IsRowAt r n) was at in
    let plain : y ≡ put_all (cell_pieces r e.minute c.entry_word.result) x = turned_into (λ z. put_all (cell_pieces r e.minute c.entry_word.result) z) (c.write_into.ensures.puts.written fine) was now in
    let same : y ≡ put_all (putting n e.minute c.entry_word.result (rows_in x)) x = plain ∙ sym (ap (λ (o : Option ℕ). put_all (pieces_into e.minute c.entry_word.result o) x) mine) in
    subst (OwedRowHas n e x) (sym (same ∙ (λ t. put_all (putting n e.minute (is t) (rows_in x)) x)))
    (put_end n e x (unit_sized (g.met.M.Medium.coherent c.args.unit.now) c.requires.unit x was) r mine c.write_into.ensures.minute
    (subst (λ (w : ℕ). w < 65536) is c.write_into.ensures.word) (subst (λ (w : ℕ). word_minute w < 1440) is c.entry_word.ensures.minute))))

pub returns-clause-settled : goal.returns-clause-settled
returns-clause-settled g c = on_ok c.write_into.result (λ fine. settled_now c.write_into.ensures.puts fine (omega arith))
