use Rattle.std.proofs.Common.{◌≡◌, ℕ, length, refl, arith}
use Rattle.tach_media.proofs.Runs.{ok_gives}
use Rattle.tacho_types.specs.CardNumber.{card_number_bytes}
use Rattle.unit_minutes.specs.unit_owed.Rows.{cell_pieces, entry_word}
use Rattle.device_calls.proofs.EntryOwed.{owed-holds, puts, owed-mine, owed-other, put, worked, row-there, row-still}
use Rattle.device_calls.proofs.Travel.{put-travelled}
use Rattle.device_calls.proofs.Enters.{unit-still}
use Rattle.device_calls.proofs.owing.owe.Goals as goal

pub returns-clause-stands : goal.returns-clause-stands
returns-clause-stands g c = record {
  unit = unit-still _ _ (c.put_owed_at.ensures.moments (card_number_bytes c.args.owed.number) c.requires.row.row) c.requires.ready.unit;
  same = c.put_owed_at.ensures.same;
  agrees = c.put_owed_at.ensures.agrees;
  rows = row-still c.put_owed_at.result _ _ _ c.args.owed.entry c.put_owed_at.ensures.puts.leaves.tells (c.put_owed_at.ensures.put (card_number_bytes c.args.owed.number) c.requires.row.row);
}

pub returns-clause-rules : goal.returns-clause-rules
returns-clause-rules g c = record {
  holds = λ s due b marks whose h. owed-holds s due b marks _ _ whose (g.met.M.Medium.coherent c.args.unit.now) (c.put_owed_at.ensures.moments (card_number_bytes c.args.owed.number) c.requires.row.row) h;
  mine =
      λ r s due b marks z named h late some present rule.
      owed-mine r c.args.which _ named c.args.owed.entry some (g.met.M.Medium.coherent c.args.unit.now) _ c.requires.ready.agrees s due b marks h late (c.put_owed_at.ensures.moments (card_number_bytes c.args.owed.number) c.requires.row.row) (g.C.Chip.state c.args.mine.now) z rule _ present
      (λ well. put r c.args.which _ named c.args.owed.entry some (g.met.M.Medium.coherent c.args.unit.now) _ c.requires.ready.agrees s due b marks h late (c.put_owed_at.ensures.moments (card_number_bytes c.args.owed.number) c.requires.row.row) (g.C.Chip.state c.args.mine.now) z rule
      (g.met.M.Medium.coherent c.put_owed_at.new.unit) (worked well c.put_owed_at.ensures.cause).0 (row-there (g.M.Medium.state c.args.unit.now).image c.args.owed.row (card_number_bytes c.args.owed.number) c.requires.row.row) (ok_gives _ (c.put_owed_at.ensures.put (card_number_bytes c.args.owed.number) c.requires.row.row) well) (worked well c.put_owed_at.ensures.cause).1);
  others =
      λ r s due b marks y z m d named h late some rule others.
      owed-other r c.args.which _ named c.args.owed.entry some (g.met.M.Medium.coherent c.args.unit.now) _ c.requires.ready.agrees s due b marks h late (c.put_owed_at.ensures.moments (card_number_bytes c.args.owed.number) c.requires.row.row) (g.C.Chip.state c.args.mine.now) y rule (g.D.Chip.state c.args.others.now) _ z m d others;
}

pub returns-clause-leaves : goal.returns-clause-leaves
returns-clause-leaves g c = record {
  views =
      λ r s due b marks z named h late some rule.
      puts r c.args.which _ named c.args.owed.entry some (g.met.M.Medium.coherent c.args.unit.now) _ c.requires.ready.agrees s due b marks h late (c.put_owed_at.ensures.moments (card_number_bytes c.args.owed.number) c.requires.row.row) (g.C.Chip.state c.args.mine.now) z rule;
  travelled = λ start b t h. put-travelled start b t h (g.met.M.Medium.coherent c.args.unit.now) _ c.args.owed.entry (c.put_owed_at.ensures.moments (card_number_bytes c.args.owed.number) c.requires.row.row);
  moments = c.put_owed_at.ensures.moments (card_number_bytes c.args.owed.number) c.requires.row.row;
  keeps = c.put_owed_at.ensures.puts.leaves.keeps;
}

-- ---- three writes at most

three : (row minute word : ℕ) → length (cell_pieces row minute word) ≡ 3
three row minute word = refl

pub returns-clause-answers : goal.returns-clause-answers
returns-clause-answers g c = record {
  goes = record {
    clock = c.put_owed_at.ensures.puts.leaves.later;
    tells = c.put_owed_at.ensures.puts.leaves.tells;
    cause = c.put_owed_at.ensures.cause;
  };
  most =
      let most = c.put_owed_at.ensures.puts.clock in
      let long = three c.args.owed.row c.args.owed.entry.minute (entry_word c.args.owed.entry) in
      omega (arith, most, long);
}

pub put_owed_at-requires-clause-own : goal.put_owed_at-requires-clause-own
put_owed_at-requires-clause-own g c = (card_number_bytes c.args.owed.number, c.requires.row.row)
