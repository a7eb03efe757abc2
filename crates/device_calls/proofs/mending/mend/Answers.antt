use Rattle.tach_media.proofs.Runs.{ok_gives, on_ok}
use Rattle.device_calls.proofs.EntryOwed.{worked}
use Rattle.device_calls.proofs.PowerBack.{mended-holds, mends-views, taken-up}
use Rattle.device_calls.proofs.Enters.{unit-still}
use Rattle.device_calls.proofs.mending.mend.Goals as goal

pub returns-clause-stands : goal.returns-clause-stands
returns-clause-stands g c = record {
  unit = unit-still _ _ c.mend.ensures.moments c.requires.unit;
  notes = on_ok c.mend.result (λ well. (ok_gives c.mend.result c.mend.ensures.mended well).notes);
  same = c.mend.ensures.same;
  agrees = on_ok c.mend.result (λ well. (ok_gives c.mend.result c.mend.ensures.mended well).agrees);
}

pub returns-clause-rules : goal.returns-clause-rules
returns-clause-rules g c = record {
  holds =
      λ s due b marks h. mended-holds s due b marks _ (g.met.M.Medium.coherent c.args.unit.now) c.mend.ensures.moments h _ (g.met.M.Medium.coherent c.mend.new.unit)
      c.mend.ensures.cause.works (λ well. (ok_gives c.mend.result c.mend.ensures.mended well).mended);
  first =
      λ r card b z rests.
      taken-up r card b z (g.C.Chip.state c.args.first.now) _ (g.met.M.Medium.coherent c.args.unit.now) c.mend.ensures.moments rests _ (g.met.M.Medium.coherent c.mend.new.unit)
      (λ well. (worked well c.mend.ensures.cause).0) (λ well. (ok_gives c.mend.result c.mend.ensures.mended well).mended);
  second =
      λ r card b z rests.
      taken-up r card b z (g.D.Chip.state c.args.second.now) _ (g.met.M.Medium.coherent c.args.unit.now) c.mend.ensures.moments rests _ (g.met.M.Medium.coherent c.mend.new.unit)
      (λ well. (worked well c.mend.ensures.cause).0) (λ well. (ok_gives c.mend.result c.mend.ensures.mended well).mended);
}

pub returns-clause-leaves : goal.returns-clause-leaves
returns-clause-leaves g c = record {
  views = λ a b. mends-views _ (g.met.M.Medium.coherent c.args.unit.now) c.mend.ensures.moments a b;
  moments = c.mend.ensures.moments;
}

pub returns-clause-answers : goal.returns-clause-answers
returns-clause-answers g c = record {
  goes = record {
    clock = c.mend.ensures.moments.later;
    tells = c.mend.ensures.moments.tells;
    cause = c.mend.ensures.cause;
  };
  most = c.mend.ensures.most;
}
