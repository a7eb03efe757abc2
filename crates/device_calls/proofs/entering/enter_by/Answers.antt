use Rattle.std.proofs.lemmas.Grind.{common_steps}
use Rattle.std.specs.Prelude.{Err}
use Rattle.std.proofs.Common.{inl, refl, sym, subst, arith, rules}
use Rattle.card_session.proofs.InsertingUse.{insert_still}
use Rattle.device_calls.specs.declared.entering.NotEntered.{NotEntered}
use Rattle.device_calls.specs.Entering.{IsEntering}
use Rattle.device_calls.proofs.EntryOwed.{worked}
use Rattle.device_calls.proofs.PutIn.{enters_after, enters_refused, in_time_after}
use Rattle.tach_media.proofs.Runs.{after_reads, from_reads}
use Rattle.device_calls.proofs.entering.enter_by.Goals as goal

pub look-requires-clause-fits : goal.look-requires-clause-fits
look-requires-clause-fits g c = c.requires.card.card.keep.fits

pub enter_as-requires-clause-card : goal.enter_as-requires-clause-card
enter_as-requires-clause-card g c = record {
  sizes = c.requires.card.sizes;
  card = insert_still c.args.insertion.app c.args.insertion.app c.in-Ok.ensures.reads.leaves refl c.requires.card.card;
  told = first_of (search rules, grind (arith, common_steps));
}

pub enter_as-requires-clause-works : goal.enter_as-requires-clause-works
enter_as-requires-clause-works g c = (worked refl c.in-Ok.ensures.reads.cause).0

pub returns-in-Ok-clause-enters : goal.returns-in-Ok-clause-enters
returns-in-Ok-clause-enters g c =
    enters_after c.args.insertion.app c.args.insertion.registration c.args.insertion.odometer.0 c.args.insertion.time.0 (g.M.Medium.state c.args.unit.now) (g.M.Medium.state c.enter_as.new.unit) (g.C.Medium.state c.args.card.now) (g.C.Medium.state c.look.new.port)
    (g.C.Medium.state c.enter_as.new.card) c.enter_as.result c.in-Ok.ensures.reads c.enter_as.ensures.enters

pub returns-in-Ok-clause-put : goal.returns-in-Ok-clause-put
returns-in-Ok-clause-put g c = record {
  leaves = after_reads c.in-Ok.ensures.reads.leaves (c.in-Ok.ensures.reads.same refl) c.enter_as.ensures.put.leaves;
  in_time = in_time_after c.args.insertion.app c.args.insertion.registration c.args.insertion.odometer.0 c.args.insertion.time.0 (g.C.Medium.state c.args.card.now) (g.C.Medium.state c.look.new.port) (g.C.Medium.state c.enter_as.new.card) c.in-Ok.ensures.reads c.enter_as.ensures.put.in_time;
  most = omega (arith, c.in-Ok.ensures.reads.clock, c.enter_as.ensures.put.most);
}

pub returns-in-Err-clause-put : goal.returns-in-Err-clause-put
returns-in-Err-clause-put g c = record {
  leaves = from_reads c.in-Err.ensures.reads.leaves;
  in_time = inl c.in-Err.ensures.reads.leaves;
  most = omega (arith, c.in-Err.ensures.reads.clock);
}

pub returns-in-Err-clause-enters : goal.returns-in-Err-clause-enters
returns-in-Err-clause-enters g c =
    subst (λ (f : NotEntered). IsEntering c.args.insertion.app c.args.insertion.registration c.args.insertion.odometer.0 c.args.insertion.time.0 (g.M.Medium.state c.args.unit.now) (g.M.Medium.state c.args.unit.now) (g.C.Medium.state c.args.card.now) (g.C.Medium.state c.look.new.port) (Err f)) (sym c.refused_by.ensures)
    (enters_refused c.args.insertion.app c.args.insertion.registration c.args.insertion.odometer.0 c.args.insertion.time.0 (g.M.Medium.state c.args.unit.now) (g.C.Medium.state c.args.card.now) (g.C.Medium.state c.look.new.port) c.in-Err.fault
    c.in-Err.ensures.bad c.in-Err.ensures.in_time c.in-Err.ensures.reads)

pub enter_as-requires-clause-ready : goal.enter_as-requires-clause-ready
enter_as-requires-clause-ready g c = c.requires.ready

pub enter_as-requires-clause-may : goal.enter_as-requires-clause-may
enter_as-requires-clause-may g c = c.requires.may

pub returns-in-Ok-clause-row : goal.returns-in-Ok-clause-row
returns-in-Ok-clause-row g c = c.enter_as.ensures.row

pub returns-in-Err-clause-row : goal.returns-in-Err-clause-row
returns-in-Err-clause-row g c = record { own = tt; low = tt }
