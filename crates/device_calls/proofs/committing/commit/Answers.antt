use Rattle.tach_media.proofs.Runs.{ok_gives, on_ok}
use Rattle.device_calls.proofs.EntryOwed.{worked}
use Rattle.device_calls.proofs.MinuteKept.{committed-unit, committed-card, keeps-views, same_minute, rows-kept, most-begun}
use Rattle.unit_rule.proofs.KeptDays.{keeping-run}
use Rattle.device_calls.proofs.Travel.{keep-gone}
use Rattle.device_calls.proofs.Enters.{unit-still}
use Rattle.device_calls.proofs.committing.commit.Goals as goal

pub returns-clause-stands : goal.returns-clause-stands
returns-clause-stands g c = record {
  unit = unit-still _ _ c.keep.ensures.moments c.requires.ready.unit;
  notes = on_ok c.keep.result (λ well. (ok_gives c.keep.result c.keep.ensures.kept well).notes);
  same = c.keep.ensures.same;
  agrees = on_ok c.keep.result (λ well. (ok_gives c.keep.result c.keep.ensures.kept well).agrees);
  rows = rows-kept c.keep.result _ _ _ c.keep.ensures.moments.tells (on_ok c.keep.result (λ well. (ok_gives c.keep.result c.keep.ensures.kept well).kept));
}

pub returns-clause-rules : goal.returns-clause-rules
returns-clause-rules g c = record {
  holds =
      λ s due b marks i is h none late.
      committed-unit _ c.args.kept.now.odometer.0 i is (g.met.M.Medium.coherent c.args.unit.now) c.keep.ensures.moments s due b marks h none late _ (most-begun _ _ _ _ c.keep.ensures.puts.clock) (g.met.M.Medium.coherent c.keep.new.unit)
      (λ well. (worked well c.keep.ensures.cause).0) (λ well. (ok_gives c.keep.result c.keep.ensures.kept well).kept) (λ well. (ok_gives c.keep.result c.keep.ensures.kept well).settled);
  first =
      λ r card s due b marks i z is h none late rule fits.
      committed-card _ c.args.kept.now.odometer.0 i is (g.met.M.Medium.coherent c.args.unit.now) c.keep.ensures.moments s due b marks h none late r card (g.C.Chip.state c.args.first.now) z (same_minute c.args.kept.now i is c.requires.may.low) rule fits _ (g.met.M.Medium.coherent c.keep.new.unit)
      (λ well. (worked well c.keep.ensures.cause).0) (λ well. (ok_gives c.keep.result c.keep.ensures.kept well).kept);
  second =
      λ r card s due b marks i z is h none late rule fits.
      committed-card _ c.args.kept.now.odometer.0 i is (g.met.M.Medium.coherent c.args.unit.now) c.keep.ensures.moments s due b marks h none late r card (g.D.Chip.state c.args.second.now) z (same_minute c.args.kept.now i is c.requires.may.low) rule fits _ (g.met.M.Medium.coherent c.keep.new.unit)
      (λ well. (worked well c.keep.ensures.cause).0) (λ well. (ok_gives c.keep.result c.keep.ensures.kept well).kept);
}

pub returns-clause-leaves : goal.returns-clause-leaves
returns-clause-leaves g c = record {
  views = λ a b i is. keeps-views _ c.args.kept.now.odometer.0 i is (g.met.M.Medium.coherent c.args.unit.now) c.keep.ensures.moments a b;
  travelled =
      λ start t leg s due b marks i is h none late gone odometer.
      let q = c.requires in
      keep-gone _ c.args.kept.now.odometer.0 i is (g.met.M.Medium.coherent c.args.unit.now) (keeping-run _ c.args.kept.now q.ready.agrees q.may.low q.may.later c.keep.ensures.moments c.keep.ensures.words) s due b marks h none late start t leg gone odometer _
      (g.met.M.Medium.coherent c.keep.new.unit) (λ well. (worked well c.keep.ensures.cause).0) (λ well. (ok_gives c.keep.result c.keep.ensures.kept well).kept);
  moments = c.keep.ensures.moments;
  keeps = c.keep.ensures.moments.keeps;
}

pub returns-clause-answers : goal.returns-clause-answers
returns-clause-answers g c = record {
  goes = record {
    clock = c.keep.ensures.moments.later;
    tells = c.keep.ensures.moments.tells;
    cause = c.keep.ensures.cause;
  };
  most = most-begun _ _ _ _ c.keep.ensures.puts.clock;
}
