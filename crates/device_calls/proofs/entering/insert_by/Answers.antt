use Rattle.std.specs.Prelude.{Err}
use Rattle.std.proofs.Common.{sym, subst, refl}
use Rattle.card_session.specs.declared.insert.Inserted.{Inserted}
use Rattle.device_calls.specs.declared.entering.NotEntered.{NotEntered}
use Rattle.device_calls.specs.Entering.{IsInsertedWith}
use Rattle.device_calls.proofs.PutIn.{insert_done, insert_refused}
use Rattle.tach_media.proofs.Runs.{weaken}
use Rattle.device_calls.specs.OnCard.{Anything}
use Rattle.device_calls.proofs.entering.insert_by.Goals as goal

pub returns-in-Ok-clause-inserted : goal.returns-in-Ok-clause-inserted
returns-in-Ok-clause-inserted g c =
    insert_done c.args.insertion.app c.args.insertion.registration c.args.insertion.odometer.0 c.args.insertion.time.0 c.args.owed.items c.args.look (g.C.Medium.state c.args.card.now) (g.C.Medium.state c.insert.new.port) _ (refl, refl)
    c.in-Ok.ensures.accepted.valid c.in-Ok.ensures.accepted.inserted c.in-Ok.ensures.accepted.replayed c.in-Ok.ensures.accepted.few c.in-Ok.ensures.accepted.session c.in-Ok.ensures.accepted.value c.in-Ok.ensures.leaves.moments (c.in-Ok.ensures.leaves.settled refl) c.in-Ok.ensures.leaves.cause

pub returns-in-Err-clause-inserted : goal.returns-in-Err-clause-inserted
returns-in-Err-clause-inserted g c =
    subst (λ (f : NotEntered). IsInsertedWith c.args.insertion.app c.args.insertion.registration c.args.insertion.odometer.0 c.args.insertion.time.0 c.args.owed.items c.args.look (g.C.Medium.state c.args.card.now) (g.C.Medium.state c.insert.new.port) (Err f)) (sym c.refused_by.ensures)
    (insert_refused c.args.insertion.app c.args.insertion.registration c.args.insertion.odometer.0 c.args.insertion.time.0 c.args.owed.items c.args.look (g.C.Medium.state c.args.card.now) (g.C.Medium.state c.insert.new.port) Inserted c.in-Err.fault
    c.in-Err.ensures.refused.bad c.in-Err.ensures.refused.late c.in-Err.ensures.refused.bad_reads c.in-Err.ensures.refused.late_reads c.in-Err.ensures.leaves.moments c.in-Err.ensures.leaves.cause)

pub returns-in-Ok-clause-put : goal.returns-in-Ok-clause-put
returns-in-Ok-clause-put g c = record {
  leaves = weaken {R = Anything} c.in-Ok.ensures.leaves.moments (λ x y told k. tt);
  in_time = c.in-Ok.ensures.leaves.in_time;
  most = c.in-Ok.ensures.leaves.most;
}

pub returns-in-Err-clause-put : goal.returns-in-Err-clause-put
returns-in-Err-clause-put g c = record {
  leaves = weaken {R = Anything} c.in-Err.ensures.leaves.moments (λ x y told k. tt);
  in_time = c.in-Err.ensures.leaves.in_time;
  most = c.in-Err.ensures.leaves.most;
}
