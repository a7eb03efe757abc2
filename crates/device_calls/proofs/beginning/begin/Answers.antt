use Rattle.std.proofs.Common.{◌≡◌, ℕ, List, length, option_map, refl, arith}
use Rattle.tacho_types.specs.CardNumber.{card_number_bytes}
use Rattle.tach_media.proofs.Runs.{ok_gives}
use Rattle.unit_minutes.specs.unit_owed.Rows.{row_pieces}
use Rattle.device_calls.proofs.EntryOwed.{worked}
use Rattle.device_calls.proofs.RowBegun.{begun-holds, row-spared, begins, taken-other}
use Rattle.device_calls.proofs.RowAlone.{ends-alone, taken-alone}
use Rattle.device_calls.proofs.Enters.{unit-still}
use Rattle.device_calls.proofs.beginning.begin.Goals as goal

pub returns-clause-stands : goal.returns-clause-stands
returns-clause-stands g c = record {
  unit = unit-still _ _ (c.begin_owed_at.ensures.moments (option_map (λ n. card_number_bytes n) c.args.row.spared) c.requires.row.row) c.requires.ready.unit;
  same = c.begin_owed_at.ensures.same;
  agrees = c.begin_owed_at.ensures.agrees;
  row = c.begin_owed_at.ensures.row;
  spares = row-spared c.begin_owed_at.result _ _ _ _ _ c.begin_owed_at.ensures.puts.leaves.tells (c.begin_owed_at.ensures.begun (option_map (λ n. card_number_bytes n) c.args.row.spared) c.requires.row.row);
}

pub returns-clause-rules : goal.returns-clause-rules
returns-clause-rules g c = record {
  holds = λ s due b marks whose spare h. begun-holds s due b marks _ _ _ whose spare (g.met.M.Medium.coherent c.args.unit.now) (c.begin_owed_at.ensures.moments (option_map (λ n. card_number_bytes n) c.args.row.spared) c.requires.row.row) h;
  mine =
      λ r s due b marks newest named h late rule entered.
      taken-alone r c.args.which _ named _ c.args.row.session (g.met.M.Medium.coherent c.args.unit.now) _ c.requires.ready.agrees (c.begin_owed_at.ensures.moments (option_map (λ n. card_number_bytes n) c.args.row.spared) c.requires.row.row) (g.C.Chip.state c.args.mine.now) s due b marks h late c.requires.session newest rule entered _
      (λ well. ends-alone r c.args.which _ named _ c.args.row.session (g.met.M.Medium.coherent c.args.unit.now) _ c.requires.ready.agrees (c.begin_owed_at.ensures.moments (option_map (λ n. card_number_bytes n) c.args.row.spared) c.requires.row.row) (g.met.M.Medium.coherent c.begin_owed_at.new.unit) (worked well c.begin_owed_at.ensures.cause).0 (ok_gives _ (c.begin_owed_at.ensures.begun (option_map (λ n. card_number_bytes n) c.args.row.spared) c.requires.row.row) well)
      (worked well c.begin_owed_at.ensures.cause).1);
  others =
      λ r s due b marks z m d named others rule.
      taken-other r c.args.which _ named _ others c.args.row.session (g.met.M.Medium.coherent c.args.unit.now) _ c.requires.ready.agrees (c.begin_owed_at.ensures.moments (option_map (λ n. card_number_bytes n) c.args.row.spared) c.requires.row.row) (g.D.Chip.state c.args.others.now) b z m d _ rule;
}

pub returns-clause-leaves : goal.returns-clause-leaves
returns-clause-leaves g c = record {
  views =
      λ r named others.
      begins r c.args.which _ named _ others c.args.row.session (g.met.M.Medium.coherent c.args.unit.now) _ c.requires.ready.agrees (c.begin_owed_at.ensures.moments (option_map (λ n. card_number_bytes n) c.args.row.spared) c.requires.row.row);
  begun = c.begin_owed_at.ensures.begun (option_map (λ n. card_number_bytes n) c.args.row.spared) c.requires.row.row;
  moments = c.begin_owed_at.ensures.moments (option_map (λ n. card_number_bytes n) c.args.row.spared) c.requires.row.row;
}

-- ---- seven writes at most

seven : (row : ℕ) (number : List ℕ) (session : ℕ) → length (row_pieces row number session) ≡ 7
seven row number session = refl

pub returns-clause-answers : goal.returns-clause-answers
returns-clause-answers g c = record {
  goes = record {
    clock = c.begin_owed_at.ensures.puts.leaves.later;
    tells = c.begin_owed_at.ensures.puts.leaves.tells;
    cause = c.begin_owed_at.ensures.cause;
  };
  most =
      let most = c.begin_owed_at.ensures.puts.clock in
      let long = seven c.args.row.index (card_number_bytes c.args.row.number) c.args.row.session in
      omega (arith, most, long);
}

pub begin_owed_at-requires-clause-own : goal.begin_owed_at-requires-clause-own
begin_owed_at-requires-clause-own g c = (option_map (λ n. card_number_bytes n) c.args.row.spared, c.requires.row.row)
