use Rattle.std.proofs.Common.{ℕ, List, IfSome, OnOk, ◌∙◌, subst}
use Rattle.tacho_types.specs.CardNumber.{card_number_bytes}
use Rattle.tach_media.proofs.Runs.{on_ok, ok_gives}
use Rattle.std.specs.Prelude.{is_err}
use Rattle.tach_media.specs.Plan.{PutsBy}
use Rattle.unit_owed.specs.Owed.{rows_in}
use Rattle.unit_owed.specs.Rows.{entry_word, putting, HasRow, OwedRowHas}
use Rattle.unit_minutes.proofs.OwedBeside.{still_agrees, told_after}
use Rattle.unit_minutes.proofs.journal.Journal.put_owed.Goals as goal

pub returns-clause-put : goal.returns-clause-put
returns-clause-put g c = on_ok c.put_owed.result (λ fine. record {
  agrees = still_agrees c.args.self.now (g.M.Medium.state c.args.unit.now).image (g.M.Medium.state c.put_owed.new.unit).image _ _
      (c.put_owed.ensures.puts.written fine) c.requires.agrees (ok_gives c.put_owed.result c.put_owed.ensures.put fine) (λ x y is. is.putting.outside);
  row =
      let number = card_number_bytes c.args.number.now in
      let old = (g.M.Medium.state c.args.unit.now).image in
      let new = (g.M.Medium.state c.put_owed.new.unit).image in
      told_after old new (HasRow number) (OwedRowHas number c.args.entry.now) (HasRow number) c.put_owed.ensures.moments.tells c.requires.row
      (ok_gives c.put_owed.result (subst (λ (n : List ℕ). OnOk c.put_owed.result (IfSome old (λ x. IfSome new (OwedRowHas n c.args.entry.now x)))) c.write_card_number.ensures.bytes c.put_owed.ensures.put) fine)
      (λ x y has is. (has.0, is.putting.indices number ∙ has.1));
  wrote = ok_gives c.put_owed.result c.put_owed.ensures.wrote fine;
  put = ok_gives c.put_owed.result (subst (λ (n : List ℕ). OnOk c.put_owed.result (IfSome (g.M.Medium.state c.args.unit.now).image (λ x. IfSome (g.M.Medium.state c.put_owed.new.unit).image (OwedRowHas n c.args.entry.now x)))) c.write_card_number.ensures.bytes c.put_owed.ensures.put) fine;
  settled = ok_gives c.put_owed.result c.put_owed.ensures.settled fine;
})

pub returns-clause-puts : goal.returns-clause-puts
returns-clause-puts g c =
    let e = c.args.entry.now in
    subst (λ (n : List ℕ). PutsBy (g.M.Medium.state c.args.unit.now) (g.M.Medium.state c.put_owed.new.unit) (is_err c.put_owed.result) 0 3 (λ x. putting n e.minute (entry_word e) (rows_in x))) c.write_card_number.ensures.bytes c.put_owed.ensures.puts
