use Rattle.std.proofs.Common.{◌≡◌, ◌<◌, ◌∙◌, ℕ, subst, sym, is_err}
use Rattle.tach_media.proofs.Runs.{weaken, at_image, both_told, where_told, turned_into, on_ok, ok_gives}
use Rattle.tach_media.specs.Plan.{PutsBy, put_all, IsPartway}
use Rattle.unit_model.specs.Days.{word_minute}
use Rattle.unit_model.proofs.Sized.{unit_sized}
use Rattle.unit_owed.specs.Owed.{rows_in}
use Rattle.unit_owed.specs.Rows.{putting, HasRow, OwedRowHas}
use Rattle.unit_owed.proofs.Putting.{putting_moment, put_end}
use Rattle.unit_owed.proofs.writing.put_owed.Goals as goal

pub returns-clause-puts : goal.returns-clause-puts
returns-clause-puts g c =
    let old = g.M.Medium.state c.args.unit.now in
    let new = g.M.Medium.state c.write_entry.new.unit in
    subst (λ (w : ℕ). PutsBy old new (is_err c.write_entry.result) 0 3 (λ x. putting c.args.number.now c.args.entry.now.minute w (rows_in x))) c.entry_word.ensures.word c.write_entry.ensures.puts

pub returns-clause-moments : goal.returns-clause-moments
returns-clause-moments g c =
    let e = c.args.entry.now in
    let number = c.args.number.now in
    let is = c.entry_word.ensures.word in
    weaken c.write_entry.ensures.puts.leaves (λ x d was here.
    let mine = at_image (HasRow number) was c.requires.row in
    putting_moment number e x (unit_sized (g.met.M.Medium.coherent c.args.unit.now) c.requires.unit x was) mine.0 mine.1 c.write_entry.ensures.minute
    (subst (λ (w : ℕ). w < 65536) is c.write_entry.ensures.word) (subst (λ (w : ℕ). word_minute w < 1440) is c.entry_word.ensures.minute) d
    (subst (λ (w : ℕ). IsPartway (putting number e.minute w (rows_in x)) x d) is here))

pub returns-clause-put : goal.returns-clause-put
returns-clause-put g c =
    let e = c.args.entry.now in
    let number = c.args.number.now in
    let is = c.entry_word.ensures.word in
    on_ok c.write_entry.result (λ fine. where_told (g.M.Medium.state c.args.unit.now).image (g.M.Medium.state c.write_entry.new.unit).image (OwedRowHas number e) (λ x y was now.
    let mine = at_image (HasRow number) was c.requires.row in
    let same : y ≡ put_all (putting number e.minute c.entry_word.result (rows_in x)) x = turned_into (λ z. put_all (putting number e.minute c.entry_word.result (rows_in z)) z) (c.write_entry.ensures.puts.written fine) was now in
    subst (OwedRowHas number e x) (sym (same ∙ (λ t. put_all (putting number e.minute (is t) (rows_in x)) x)))
    (put_end number e x (unit_sized (g.met.M.Medium.coherent c.args.unit.now) c.requires.unit x was) mine.0 mine.1 c.write_entry.ensures.minute
    (subst (λ (w : ℕ). w < 65536) is c.write_entry.ensures.word) (subst (λ (w : ℕ). word_minute w < 1440) is c.entry_word.ensures.minute))))

pub returns-clause-settled : goal.returns-clause-settled
returns-clause-settled g c = on_ok c.write_entry.result (λ fine. c.write_entry.ensures.puts.settled fine)

pub returns-clause-wrote : goal.returns-clause-wrote
returns-clause-wrote g c =
    on_ok c.write_entry.result (λ fine. both_told (g.M.Medium.state c.args.unit.now).image _ (ok_gives c.write_entry.result c.write_entry.ensures.wrote fine) c.requires.row (λ x was wrote has. wrote has))
