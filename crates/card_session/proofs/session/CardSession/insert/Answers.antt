use Rattle.std.proofs.lemmas.Grind.{common_steps}
use Rattle.std.proofs.Common.{inl, inr, ◌/◌, ◌<◌, ◌≤◌, max, Bool, true, false, List, Option, length, refl, sym, ◌∙◌, ap, subst, arith, rules}
use Rattle.std.specs.Prelude.{All}
use Rattle.tach_media.specs.Medium.{HasCause}
use Rattle.tach_media.proofs.Runs.{from_reads, if_told, at_image, cause_after}
use Rattle.activity_codec.specs.declared.entries.Entry.{Entry}
use Rattle.card_files.specs.declared.vehicle.Vehicle.{Vehicle}
use Rattle.card_files.specs.declared.current_use.CurrentUse.{CurrentUse}
use Rattle.card_validity.specs.card_image.Fields.{last_use_of, session_time, end_mark}
use Rattle.card_days.specs.Held.{tail_of}
use Rattle.card_validity.specs.Judged.{IsJudged}
use Rattle.card_validity.proofs.Faults.{failed_ok, failed_is, passed_ok}
use Rattle.card_session.specs.declared.words.TheConstants.{LATEST_MINUTE}
use Rattle.card_session.specs.Sessions.{Session}
use Rattle.card_session.specs.Telling.{minute_told}
use Rattle.card_session.specs.Parts.{DoesPart}
use Rattle.card_session.specs.Inserting.{Follow, IsTaken, IsTaking, replayed_count}
use Rattle.card_session.proofs.InsertingBooks.{owed_minutes}
use Rattle.card_session.proofs.InsertingUse.{insert_still}
use Rattle.card_session.proofs.InsertingFaults.{passed_refused, failed_refused}
use Rattle.card_session.proofs.InsertingWhole.{judged_session, whole_moments, whole_inserted, whole_session}
use Rattle.card_session.proofs.session.CardSession.insert.Goals as goal

pub judge-requires-clause-fits : goal.judge-requires-clause-fits
judge-requires-clause-fits g c = c.requires.card.card.keep.fits

pub over-session-requires-clause-days : goal.over-session-requires-clause-days
over-session-requires-clause-days g c = c.in_ok-judged.ensures.sized.days

pub over-session-requires-clause-vehicles : goal.over-session-requires-clause-vehicles
over-session-requires-clause-vehicles g c = c.in_ok-judged.ensures.sized.vehicles

pub over-session-requires-clause-newest : goal.over-session-requires-clause-newest
over-session-requires-clause-newest g c = c.in_ok-judged.ensures.sized.newest

pub over-session-requires-clause-mark : goal.over-session-requires-clause-mark
over-session-requires-clause-mark g c = omega (arith, c.stored-stored.ensures.used, c.if-stored-now.false, c.requires.may.last)

pub take_over-requires-clause-card : goal.take_over-requires-clause-card
take_over-requires-clause-card g c = insert_still c.args.app.now c.over-session.result.application c.in_ok-judged.ensures.reads.leaves (ap (λ (t : Session). t.application) c.over-session.ensures) c.requires.card.card

pub take_over-requires-clause-ordered : goal.take_over-requires-clause-ordered
take_over-requires-clause-ordered g c = subst (Follow 1439) (sym c.as_slice.ensures.value) c.requires.may.owed.0

pub take_over-requires-clause-minutes : goal.take_over-requires-clause-minutes
take_over-requires-clause-minutes g c = subst (All (λ e. (1440 ≤ e.minute) × (e.minute < LATEST_MINUTE))) (sym c.as_slice.ensures.value) (owed_minutes c.args.now.0 c.args.owed.now.items c.requires.may.last c.requires.may.owed)

pub returns-in_err-judged-clause-leaves : goal.returns-in_err-judged-clause-leaves
returns-in_err-judged-clause-leaves g c = record {
  moments = from_reads c.in_err-judged.ensures.reads.leaves;
  in_time = inl c.in_err-judged.ensures.reads.leaves;
  settled = first_of (search rules, grind (arith, common_steps));
  cause = first_of (search rules, grind (arith, common_steps));
  most = first_of (search rules, grind (arith, common_steps));
}

pub returns-then-stored-now-clause-leaves : goal.returns-then-stored-now-clause-leaves
returns-then-stored-now-clause-leaves g c = record {
  moments = from_reads c.in_ok-judged.ensures.reads.leaves;
  in_time = inl c.in_ok-judged.ensures.reads.leaves;
  settled = first_of (search rules, grind (arith, common_steps));
  cause = first_of (search rules, grind (arith, common_steps));
  most = first_of (search rules, grind (arith, common_steps));
}

pub returns-clause-leaves : goal.returns-clause-leaves
returns-clause-leaves g c = record {
  moments =
      let app = c.args.app.now in
      let j = c.in_ok-judged.judged in
      let v = c.args.registration.now in
      let m = max (last_use_of j.vehicle / 60) (minute_told (tail_of j.days)) in
      let odometer = c.args.odometer.0 in
      let now = c.args.now.0 in
      let mid = g.M.Medium.state c.judge.new.port in
      let new = g.M.Medium.state c.take_over.new.port in
      let u = c.take_over.new.self in
      let one = subst (λ (t : Session). DoesPart mid new false (IsTaken t u j.current odometer c.as_slice.result.now now) (IsTaking t j.current odometer c.as_slice.result.now now)) c.over-session.ensures c.in_ok-replayed.ensures.part in
      let part = subst (λ (l : List Entry). DoesPart mid new false (IsTaken (judged_session app j v m) u j.current odometer l now) (IsTaking (judged_session app j v m) j.current odometer l now)) c.as_slice.ensures.value one in
      whole_moments app j v m odometer now c.args.owed.now.items (omega (arith, c.stored-stored.ensures.used, c.if-stored-now.false, c.requires.may.last)) u (g.M.Medium.state c.args.port.now) mid c.in_ok-judged.ensures.reads c.in_ok-judged.ensures.judged part;
  in_time = inr (if_told (g.M.Medium.state c.args.port.now).image _ (λ x was.
      let j = at_image (λ x. IsJudged c.args.app.now x c.in_ok-judged.judged) was c.in_ok-judged.ensures.judged in
      omega (arith, c.stored-stored.ensures.stored c.args.app.now x j.known, c.if-stored-now.false)));
  settled = first_of (search rules, grind (arith, common_steps));
  cause = cause_after c.in_ok-judged.ensures.reads.cause c.in_ok-replayed.ensures.called;
  most = omega (arith, c.in_ok-judged.ensures.reads.clock, c.in_ok-replayed.ensures.most);
}

pub returns-clause-accepted : goal.returns-clause-accepted
returns-clause-accepted g c = record {
  valid =
      let app = c.args.app.now in
      if_told (g.M.Medium.state c.args.port.now).image _ (λ x was.
      let j = at_image (λ x. IsJudged app x c.in_ok-judged.judged) was c.in_ok-judged.ensures.judged in
      (j.valid, omega (arith, c.stored-stored.ensures.stored app x j.known, c.if-stored-now.false)));
  inserted =
      let app = c.args.app.now in
      let j = c.in_ok-judged.judged in
      let v = c.args.registration.now in
      let m = max (last_use_of j.vehicle / 60) (minute_told (tail_of j.days)) in
      let odometer = c.args.odometer.0 in
      let now = c.args.now.0 in
      let mid = g.M.Medium.state c.judge.new.port in
      let new = g.M.Medium.state c.take_over.new.port in
      let u = c.take_over.new.self in
      let one = subst (λ (t : Session). DoesPart mid new false (IsTaken t u j.current odometer c.as_slice.result.now now) (IsTaking t j.current odometer c.as_slice.result.now now)) c.over-session.ensures c.in_ok-replayed.ensures.part in
      let part = subst (λ (l : List Entry). DoesPart mid new false (IsTaken (judged_session app j v m) u j.current odometer l now) (IsTaking (judged_session app j v m) j.current odometer l now)) c.as_slice.ensures.value one in
      whole_inserted app j v m odometer now c.args.owed.now.items (omega (arith, c.stored-stored.ensures.used, c.if-stored-now.false, c.requires.may.last)) u (g.M.Medium.state c.args.port.now) mid c.in_ok-judged.ensures.reads c.in_ok-judged.ensures.judged part refl;
  session =
      let app = c.args.app.now in
      let j = c.in_ok-judged.judged in
      let v = c.args.registration.now in
      let m = max (last_use_of j.vehicle / 60) (minute_told (tail_of j.days)) in
      let odometer = c.args.odometer.0 in
      let now = c.args.now.0 in
      let mid = g.M.Medium.state c.judge.new.port in
      let new = g.M.Medium.state c.take_over.new.port in
      let u = c.take_over.new.self in
      let one = subst (λ (t : Session). DoesPart mid new false (IsTaken t u j.current odometer c.as_slice.result.now now) (IsTaking t j.current odometer c.as_slice.result.now now)) c.over-session.ensures c.in_ok-replayed.ensures.part in
      let part = subst (λ (l : List Entry). DoesPart mid new false (IsTaken (judged_session app j v m) u j.current odometer l now) (IsTaking (judged_session app j v m) j.current odometer l now)) c.as_slice.ensures.value one in
      whole_session app j v m odometer now c.args.owed.now.items (omega (arith, c.stored-stored.ensures.used, c.if-stored-now.false, c.requires.may.last)) u (g.M.Medium.state c.args.port.now) mid c.in_ok-judged.ensures.reads c.in_ok-judged.ensures.judged part refl;
  value =
      let a = c.in_ok-replayed.ensures.same in (
        a.0 ∙ ap (λ (t : Session). t.application) c.over-session.ensures,
        a.1 ∙ ap (λ (t : Session). t.registration) c.over-session.ensures,
        a.2 ∙ ap (λ (t : Session). t.odometer) c.over-session.ensures,
      );
  few = omega (arith, c.in_ok-replayed.ensures.replays.few, ap (λ (l : List Entry). length l) c.as_slice.ensures.value);
  replayed =
      let app = c.args.app.now in
      let es = c.as_slice.result.now in
      if_told (g.M.Medium.state c.args.port.now).image _ (λ x was.
      let known = (at_image (λ x. IsJudged app x c.in_ok-judged.judged) was c.in_ok-judged.ensures.judged).known in
      c.in_ok-replayed.ensures.replays.count
      ∙ ap (λ (u : CurrentUse). replayed_count u.session.0 (last_use_of c.over-session.result.vehicle / 60) es) known.current
      ∙ ap (λ (t : Session). replayed_count (session_time app x) (last_use_of t.vehicle / 60) es) c.over-session.ensures
      ∙ ap (λ (o : Option Vehicle). replayed_count (session_time app x) (last_use_of o / 60) es) known.vehicle
      ∙ ap (λ (l : List Entry). replayed_count (session_time app x) (end_mark app x) l) c.as_slice.ensures.value);
}

pub returns-in_err-replayed-clause-leaves : goal.returns-in_err-replayed-clause-leaves
returns-in_err-replayed-clause-leaves g c = record {
  moments =
      let app = c.args.app.now in
      let j = c.in_ok-judged.judged in
      let v = c.args.registration.now in
      let m = max (last_use_of j.vehicle / 60) (minute_told (tail_of j.days)) in
      let odometer = c.args.odometer.0 in
      let now = c.args.now.0 in
      let mid = g.M.Medium.state c.judge.new.port in
      let new = g.M.Medium.state c.take_over.new.port in
      let u = c.take_over.new.self in
      let one = subst (λ (t : Session). DoesPart mid new true (IsTaken t u j.current odometer c.as_slice.result.now now) (IsTaking t j.current odometer c.as_slice.result.now now)) c.over-session.ensures c.in_err-replayed.ensures.part in
      let part = subst (λ (l : List Entry). DoesPart mid new true (IsTaken (judged_session app j v m) u j.current odometer l now) (IsTaking (judged_session app j v m) j.current odometer l now)) c.as_slice.ensures.value one in
      whole_moments app j v m odometer now c.args.owed.now.items (omega (arith, c.stored-stored.ensures.used, c.if-stored-now.false, c.requires.may.last)) u (g.M.Medium.state c.args.port.now) mid c.in_ok-judged.ensures.reads c.in_ok-judged.ensures.judged part;
  in_time = inr (if_told (g.M.Medium.state c.args.port.now).image _ (λ x was.
      let j = at_image (λ x. IsJudged c.args.app.now x c.in_ok-judged.judged) was c.in_ok-judged.ensures.judged in
      omega (arith, c.stored-stored.ensures.stored c.args.app.now x j.known, c.if-stored-now.false)));
  settled = first_of (search rules, grind (arith, common_steps));
  cause =
      subst (λ (b : Bool). HasCause (g.M.Medium.state c.args.port.now) (g.M.Medium.state c.take_over.new.port) b) (sym (failed_is c.from_residual-in_err-replayed.result c.from_residual-in_err-replayed.ensures.1))
      (cause_after c.in_ok-judged.ensures.reads.cause c.in_err-replayed.ensures.called);
  most = omega (arith, c.in_ok-judged.ensures.reads.clock, c.in_err-replayed.ensures.most);
}

pub take_over-requires-clause-few : goal.take_over-requires-clause-few
take_over-requires-clause-few g c = omega (arith, c.as_slice.ensures.fits)

-- ---- a card that was written told of no later time

pub returns-then-stored-now-clause-refused : goal.returns-then-stored-now-clause-refused
returns-then-stored-now-clause-refused g c = record {
  bad = tt;
  late =
      let app = c.args.app.now in (
        refl,
        c.if-stored-now.true,
        if_told (g.M.Medium.state c.args.port.now).image _ (λ x was.
            let j = at_image (λ x. IsJudged app x c.in_ok-judged.judged) was c.in_ok-judged.ensures.judged in
            (j.valid, c.stored-stored.ensures.stored app x j.known)),
      );
  bad_reads = tt;
  late_reads = c.in_ok-judged.ensures.reads;
}

pub returns-in_err-judged-clause-accepted : goal.returns-in_err-judged-clause-accepted
returns-in_err-judged-clause-accepted g c = passed_ok c.from_residual.result _ _ c.from_residual.ensures.1

pub returns-in_err-replayed-clause-accepted : goal.returns-in_err-replayed-clause-accepted
returns-in_err-replayed-clause-accepted g c = failed_ok c.from_residual-in_err-replayed.result _ c.from_residual-in_err-replayed.ensures.1

pub returns-in_err-judged-clause-refused : goal.returns-in_err-judged-clause-refused
returns-in_err-judged-clause-refused g c = passed_refused c.args.app.now c.args.now.0 c.from_residual.result _ c.from_residual.ensures.1 c.in_err-judged.ensures.bad c.in_err-judged.ensures.in_time c.in_err-judged.ensures.reads

pub returns-in_err-replayed-clause-refused : goal.returns-in_err-replayed-clause-refused
returns-in_err-replayed-clause-refused g c = failed_refused _ _ c.args.app.now c.args.now.0 c.from_residual-in_err-replayed.result c.from_residual-in_err-replayed.ensures.1
