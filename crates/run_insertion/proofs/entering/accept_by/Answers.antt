use Rattle.std.proofs.lemmas.Grind.{common_steps}
use Rattle.std.proofs.Common.{◌≡◌, ◌<◌, ◌^◌, ℕ, rules, arith, length, Option, None, Ok, List, IfSome, option_map, refl, sym, subst, ap, [], ◌≤◌}
use Rattle.tacho_types.specs.CardNumber.{card_number_bytes}
use Rattle.tacho_types.specs.declared.card_number.FullCardNumber.{FullCardNumber}
use Rattle.device_calls.specs.unit_owed.Rows.{IsRowFor}
use Rattle.device_calls.specs.device_rule.Views.{other}
use Rattle.run_crew.specs.Cards.{known_of}
use Rattle.std.specs.Prelude.{is_err, Err, Result}
use Rattle.run_minutes.specs.unit_memory.declared.format.Identity.{Identity}
use Rattle.device_calls.specs.declared.entering.Entered.{Entered}
use Rattle.device_calls.specs.declared.entering.NotEntered.{NotEntered}
use Rattle.device_calls.specs.declared.entering.NotEntered.TheVariants.{UnitFailed, CardFailed, NotValid, TimeOverlap}
use Rattle.device_calls.specs.Entering.{IsEntering, card_failed}
use Rattle.run_insertion.specs.Entering.{Fell, Unasked, Unfit, Ahead, taken_as}
use Rattle.card_layout.proofs.Sizes.{largest_image}
use Rattle.run_insertion.proofs.Booked.{taken-known, unasked-known, fell-known, unfit-known, ahead-known}
use Rattle.run_insertion.proofs.InTime.{judged-early, taken-early}
use Rattle.run_insertion.proofs.Notes.{fault-noted}
use Rattle.run_insertion.proofs.Judged.{judged-taken, judged-unasked, judged-fell, judged-unfit, judged-ahead, unfit-told, ahead-told, ahead-noted}
use Rattle.run_minutes.proofs.Later.{state-then, state-by}
use Rattle.run_minutes.proofs.Calm.{card-rests, card-told, card-fell, card-first}
use Rattle.run_outcome.specs.Lines.{Listed}
use Rattle.log_model.specs.declared.lines.Break.{Break}
use Rattle.run_outcome.specs.declared.outcome.Outcome.{Outcome}
use Rattle.card_layout.specs.Files.{image_size_of}
use Rattle.run_insertion.proofs.entering.accept_by.Given.{Over}
use Rattle.run_insertion.proofs.entering.accept_by.Goals.{After-enter}
use Rattle.run_insertion.proofs.entering.accept_by.Goals as goal

-- ---- what the unit told of itself

module _ (g : Over) (c : After-enter g) where
  long : length c.args.keeper.now.memory.registration.0 ≡ 15
  long = subst (λ (i : Identity). length i.registration.0 ≡ 15) c.identity.ensures c.enter.ensures.long

  roomy : image_size_of c.args.beside.app ≤ (g.C.Chip.state c.args.card.now).size
  roomy = omega (arith, largest_image c.args.beside.app c.requires.card.goes.port.good, c.requires.card.goes.port.size)

  abbrev EntersBy : Identity → Result Entered NotEntered → Type 0
  EntersBy i r = IsEntering c.args.beside.app i.registration c.args.beside.entering.odometer.0 c.args.beside.entering.at.second (g.M.Medium.state c.args.unit.now) (g.M.Medium.state c.enter.new.unit) (g.C.Chip.state c.args.card.now) (g.C.Chip.state c.enter.new.card) r

  abbrev EntersNow : Result Entered NotEntered → Type 0
  EntersNow r = IsEntering c.args.beside.app c.args.keeper.now.memory.registration c.args.beside.entering.odometer.0 c.args.beside.entering.at.second (g.M.Medium.state c.args.unit.now) (g.M.Medium.state c.enter.new.unit) (g.C.Chip.state c.args.card.now) (g.C.Chip.state c.enter.new.card) r

pub returns-in-Ok-clause-ended : goal.returns-in-Ok-clause-ended
returns-in-Ok-clause-ended g c =
    let p = (goal.at.returns-in-Ok-clause-ended g c).After-enter in
    let enters : EntersNow g p (Ok c.in-Ok.entered) = subst (λ (i : Identity). EntersBy g p i (Ok c.in-Ok.entered)) c.identity.ensures c.in-Ok.ensures.enters in
    let t = c.take_in.ensures.ended in (
      taken_as t.0 c.in-Ok.entered (g.C.Chip.state c.enter.new.card).clock t.1,
      judged-taken c.args.beside.app c.args.beside.entering c.args.keeper.now c.args.noted.now c.args.outcome.now (g.M.Medium.state c.args.unit.now) (g.M.Medium.state c.enter.new.unit) (g.C.Chip.state c.args.card.now) (g.C.Chip.state c.enter.new.card) c.in-Ok.entered enters c.enter.ensures.card.leaves.later (is_err c.take_in.result) c.take_in.new.keeper c.take_in.new.noted c.take_in.new.outcome
          (g.M.Medium.state c.take_in.new.unit) (g.C.Chip.state c.take_in.new.card) c.take_in.ensures.judged.low c.take_in.ensures.judged.sized t.0 t.1 t.2 t.3,
      λ f w m named out low. taken-known c.args.beside.app c.args.beside.entering c.args.keeper.now (g.M.Medium.state c.args.unit.now) (g.M.Medium.state c.enter.new.unit) (g.C.Chip.state c.args.card.now) (g.C.Chip.state c.enter.new.card) (g.D.Chip.state c.args.beside.others.now) (g.met.M.Medium.coherent c.args.unit.now) (g.met.M.Medium.coherent c.enter.new.unit) (g.met.C.Chip.coherent c.args.card.now) (g.met.C.Chip.coherent c.enter.new.card) c.requires.may.come.bare c.requires.card.sized (roomy g p) c.args.keeper.now.memory.registration (long g p) c.args.beside.entering.odometer.0 (omega (arith, c.requires.may.last)) (Ok c.in-Ok.entered) enters f w m named out c.in-Ok.entered refl t.0 t.1 (is_err c.take_in.result) c.take_in.new.keeper (g.M.Medium.state c.take_in.new.unit) (g.C.Chip.state c.take_in.new.card) refl refl c.requires.may.come.second c.requires.card.goes.works (enters.unit.cause refl).works (let later = t.3.later in omega (arith, later, low)) c.take_in.ensures.judged.most t.4,
    )

pub returns-in-Err-UnitFailed-clause-ended : goal.returns-in-Err-UnitFailed-clause-ended
returns-in-Err-UnitFailed-clause-ended g c =
    let p = (goal.at.returns-in-Err-UnitFailed-clause-ended g c).After-enter in
    let is : c.in-Err-UnitFailed.field-0 ≡ UnitFailed = cc (c.in-Err-UnitFailed.field-0-is) in
    let enters : EntersNow g p (Err UnitFailed) = subst (λ (i : Identity). EntersBy g p i (Err UnitFailed)) c.identity.ensures (subst (λ (f : NotEntered). EntersBy g p c.identity.result (Err f)) is c.in-Err-UnitFailed.ensures.enters) in (
      Unasked,
      judged-unasked c.args.beside.app c.args.beside.entering c.args.keeper.now c.args.noted.now c.args.outcome.now (g.M.Medium.state c.args.unit.now) (g.M.Medium.state c.enter.new.unit) (g.C.Chip.state c.args.card.now) (g.C.Chip.state c.enter.new.card) enters,
      λ f w m named out low. unasked-known c.args.beside.app c.args.beside.entering c.args.keeper.now (g.M.Medium.state c.args.unit.now) (g.M.Medium.state c.enter.new.unit) (g.C.Chip.state c.args.card.now) (g.C.Chip.state c.enter.new.card) (g.D.Chip.state c.args.beside.others.now) (g.met.M.Medium.coherent c.args.unit.now) (g.met.M.Medium.coherent c.enter.new.unit) (g.met.C.Chip.coherent c.args.card.now) (g.met.C.Chip.coherent c.enter.new.card) c.requires.may.come.bare c.requires.card.sized (roomy g p) c.args.keeper.now.memory.registration (long g p) c.args.beside.entering.odometer.0 (omega (arith, c.requires.may.last)) (Err UnitFailed) enters f w m named out (λ never. never),
    )

pub returns-in-Err-CardFailed-clause-ended : goal.returns-in-Err-CardFailed-clause-ended
returns-in-Err-CardFailed-clause-ended g c =
    let p = (goal.at.returns-in-Err-CardFailed-clause-ended g c).After-enter in
    let is : c.in-Err-CardFailed.field-0 ≡ CardFailed = cc (c.in-Err-CardFailed.field-0-is) in
    let enters : EntersNow g p (Err CardFailed) = subst (λ (i : Identity). EntersBy g p i (Err CardFailed)) c.identity.ensures (subst (λ (f : NotEntered). EntersBy g p c.identity.result (Err f)) is c.in-Err-CardFailed.ensures.enters) in (
      Fell,
      judged-fell c.args.beside.app c.args.beside.entering c.args.keeper.now c.args.noted.now c.args.outcome.now (g.M.Medium.state c.args.unit.now) (g.M.Medium.state c.enter.new.unit) (g.C.Chip.state c.args.card.now) (g.C.Chip.state c.enter.new.card) (is_err c.tear.result) c.tear.new.self c.tear.new.breaks (g.M.Medium.state c.tear.new.unit) c.requires.card.goes.works enters c.tear.ensures.torn.keeper c.tear.ensures.torn.told
          (fault-noted c.args.beside.entering c.args.keeper.now c.tear.new.self c.tear.result c.tear.ensures.torn.keeper c.tear.ensures.leaves.noted c.tear.ensures.leaves.moments),
      λ f w m named out low. fell-known c.args.beside.app c.args.beside.entering c.args.keeper.now (g.M.Medium.state c.args.unit.now) (g.M.Medium.state c.enter.new.unit) (g.C.Chip.state c.args.card.now) (g.C.Chip.state c.enter.new.card) (g.D.Chip.state c.args.beside.others.now) (g.met.M.Medium.coherent c.args.unit.now) (g.met.M.Medium.coherent c.enter.new.unit) (g.met.C.Chip.coherent c.args.card.now) (g.met.C.Chip.coherent c.enter.new.card) c.requires.may.come.bare c.requires.card.sized (roomy g p) c.args.keeper.now.memory.registration (long g p) c.args.beside.entering.odometer.0 (omega (arith, c.requires.may.last)) (Err CardFailed) enters f w m named out (is_err c.tear.result) (g.M.Medium.state c.tear.new.unit) (enters.unit.rests refl c.requires.ready.works).works c.tear.ensures.leaves.journal c.tear.ensures.behind.cause c.tear.new.self c.tear.ensures.torn.keeper,
    )

pub returns-in-Err-NotValid-clause-ended : goal.returns-in-Err-NotValid-clause-ended
returns-in-Err-NotValid-clause-ended g c =
    let p = (goal.at.returns-in-Err-NotValid-clause-ended g c).After-enter in
    let fid = c.in-Err-NotValid.fid in
    let place = c.in-Err-NotValid.place in
    let is : c.in-Err-NotValid.field-0 ≡ NotValid fid place = cc (c.in-Err-NotValid.field-0-is) in
    let enters : EntersNow g p (Err (NotValid fid place)) = subst (λ (i : Identity). EntersBy g p i (Err (NotValid fid place))) c.identity.ensures (subst (λ (f : NotEntered). EntersBy g p c.identity.result (Err f)) is c.in-Err-NotValid.ensures.enters) in
    let told = unfit-told c.args.beside.entering c.args.outcome.now c.refuse.new.outcome _ fid _ place c.refuse.ensures.told (cc (c.in-Err-NotValid.fid-is)) (cc (c.in-Err-NotValid.place-is)) in (
      Unfit fid place,
      judged-unfit c.args.beside.app c.args.beside.entering c.args.keeper.now c.args.noted.now c.args.outcome.now (g.M.Medium.state c.args.unit.now) (g.M.Medium.state c.enter.new.unit) (g.C.Chip.state c.args.card.now) (g.C.Chip.state c.enter.new.card) (is_err c.refuse.result) fid place c.refuse.new.outcome (g.M.Medium.state c.refuse.new.unit) enters told c.refuse.ensures.notes,
      λ f w m named out low. unfit-known c.args.beside.app c.args.beside.entering c.args.keeper.now (g.M.Medium.state c.args.unit.now) (g.M.Medium.state c.enter.new.unit) (g.C.Chip.state c.args.card.now) (g.C.Chip.state c.enter.new.card) (g.D.Chip.state c.args.beside.others.now) (g.met.M.Medium.coherent c.args.unit.now) (g.met.M.Medium.coherent c.enter.new.unit) (g.met.C.Chip.coherent c.args.card.now) (g.met.C.Chip.coherent c.enter.new.card) c.requires.may.come.bare c.requires.card.sized (roomy g p) c.args.keeper.now.memory.registration (long g p) c.args.beside.entering.odometer.0 (omega (arith, c.requires.may.last)) (Err (NotValid fid place)) enters f w m named out (is_err c.refuse.result) (g.M.Medium.state c.refuse.new.unit) (enters.unit.rests refl c.requires.ready.works).works c.refuse.ensures.stands.journal c.refuse.ensures.stands.cause fid place (λ never. never),
    )

pub returns-in-Err-TimeOverlap-clause-ended : goal.returns-in-Err-TimeOverlap-clause-ended
returns-in-Err-TimeOverlap-clause-ended g c =
    let p = (goal.at.returns-in-Err-TimeOverlap-clause-ended g c).After-enter in
    let stored = c.in-Err-TimeOverlap.stored in
    let now = c.in-Err-TimeOverlap.field-0-1 in
    let is : c.in-Err-TimeOverlap.field-0 ≡ TimeOverlap stored now = cc (c.in-Err-TimeOverlap.field-0-is) in
    let enters : EntersNow g p (Err (TimeOverlap stored now)) = subst (λ (i : Identity). EntersBy g p i (Err (TimeOverlap stored now))) c.identity.ensures (subst (λ (f : NotEntered). EntersBy g p c.identity.result (Err f)) is c.in-Err-TimeOverlap.ensures.enters) in
    let told = ahead-told c.args.beside.entering c.args.outcome.now c.defer.new.outcome _ stored c.defer.ensures.told (cc (c.in-Err-TimeOverlap.stored-is)) in
    let notes = ahead-noted c.args.beside.entering c.args.keeper.now.cabin _ stored c.defer.ensures.notes (cc (c.in-Err-TimeOverlap.stored-is)) in (
      Ahead stored,
      judged-ahead c.args.beside.app c.args.beside.entering c.args.keeper.now c.args.noted.now c.args.outcome.now (g.M.Medium.state c.args.unit.now) (g.M.Medium.state c.enter.new.unit) (g.C.Chip.state c.args.card.now) (g.C.Chip.state c.enter.new.card) (is_err c.defer.result) stored now (subst (λ (n : ℕ). n < 2 ^ 32) (cc (c.in-Err-TimeOverlap.stored-is)) c.defer.ensures.low) c.defer.new.outcome (g.M.Medium.state c.defer.new.unit) enters told notes,
      λ f w m named out low. ahead-known c.args.beside.app c.args.beside.entering c.args.keeper.now (g.M.Medium.state c.args.unit.now) (g.M.Medium.state c.enter.new.unit) (g.C.Chip.state c.args.card.now) (g.C.Chip.state c.enter.new.card) (g.D.Chip.state c.args.beside.others.now) (g.met.M.Medium.coherent c.args.unit.now) (g.met.M.Medium.coherent c.enter.new.unit) (g.met.C.Chip.coherent c.args.card.now) (g.met.C.Chip.coherent c.enter.new.card) c.requires.may.come.bare c.requires.card.sized (roomy g p) c.args.keeper.now.memory.registration (long g p) c.args.beside.entering.odometer.0 (omega (arith, c.requires.may.last)) (Err (TimeOverlap stored now)) enters f w m named out (is_err c.defer.result) (g.M.Medium.state c.defer.new.unit) (enters.unit.rests refl c.requires.ready.works).works c.defer.ensures.stands.journal c.defer.ensures.stands.cause stored (λ never. never),
    )

-- ---- the clocks

pub returns-in-Ok-clause-clock : goal.returns-in-Ok-clause-clock
returns-in-Ok-clause-clock g c = let same = c.in-Ok.ensures.enters.unit.clock in let later = c.take_in.ensures.ended.3.notes.moments.later in omega (arith, same, later)

pub returns-in-Err-UnitFailed-clause-clock : goal.returns-in-Err-UnitFailed-clause-clock
returns-in-Err-UnitFailed-clause-clock g c = let same = c.in-Err-UnitFailed.ensures.enters.unit.clock in omega (arith, same)

pub returns-in-Err-CardFailed-clause-clock : goal.returns-in-Err-CardFailed-clause-clock
returns-in-Err-CardFailed-clause-clock g c = let same = c.in-Err-CardFailed.ensures.enters.unit.clock in let later = c.tear.ensures.leaves.journal.later in omega (arith, same, later)

pub returns-in-Err-NotValid-clause-clock : goal.returns-in-Err-NotValid-clause-clock
returns-in-Err-NotValid-clause-clock g c = let same = c.in-Err-NotValid.ensures.enters.unit.clock in let later = c.refuse.ensures.stands.journal.later in omega (arith, same, later)

pub returns-in-Err-TimeOverlap-clause-clock : goal.returns-in-Err-TimeOverlap-clause-clock
returns-in-Err-TimeOverlap-clause-clock g c = let same = c.in-Err-TimeOverlap.ensures.enters.unit.clock in let later = c.defer.ensures.stands.journal.later in omega (arith, same, later)

-- ---- a card that was written told of no later time

pub returns-in-Ok-clause-in_time : goal.returns-in-Ok-clause-in_time
returns-in-Ok-clause-in_time g c = taken-early c.args.beside.app c.args.beside.entering (g.C.Chip.state c.args.card.now) (g.C.Chip.state c.take_in.new.card) c.requires.card.sized c.in-Ok.ensures.enters.accepted.valid

pub returns-in-Err-UnitFailed-clause-in_time : goal.returns-in-Err-UnitFailed-clause-in_time
returns-in-Err-UnitFailed-clause-in_time g c = judged-early c.args.beside.app c.args.beside.entering (g.C.Chip.state c.args.card.now) (g.C.Chip.state c.enter.new.card) c.requires.card.sized c.enter.ensures.card.in_time

pub returns-in-Err-CardFailed-clause-in_time : goal.returns-in-Err-CardFailed-clause-in_time
returns-in-Err-CardFailed-clause-in_time g c = judged-early c.args.beside.app c.args.beside.entering (g.C.Chip.state c.args.card.now) (g.C.Chip.state c.enter.new.card) c.requires.card.sized c.enter.ensures.card.in_time

pub returns-in-Err-NotValid-clause-in_time : goal.returns-in-Err-NotValid-clause-in_time
returns-in-Err-NotValid-clause-in_time g c = judged-early c.args.beside.app c.args.beside.entering (g.C.Chip.state c.args.card.now) (g.C.Chip.state c.enter.new.card) c.requires.card.sized c.enter.ensures.card.in_time

pub returns-in-Err-TimeOverlap-clause-in_time : goal.returns-in-Err-TimeOverlap-clause-in_time
returns-in-Err-TimeOverlap-clause-in_time g c = judged-early c.args.beside.app c.args.beside.entering (g.C.Chip.state c.args.card.now) (g.C.Chip.state c.enter.new.card) c.requires.card.sized c.enter.ensures.card.in_time

-- ---- the row that is told

pub take_in-requires-clause-row : goal.take_in-requires-clause-row
take_in-requires-clause-row g c = record {
  low = c.in-Ok.ensures.row.low;
  row =
      let entered = c.in-Ok.entered in
      let number = card_number_bytes entered.look.number in
      let told = option_map (λ (s : FullCardNumber). card_number_bytes s) (known_of c.args.keeper.now.cabin.cards (other c.args.beside.entering.which)).number in
      let spared : option_map (λ (s : FullCardNumber). card_number_bytes s) c.of.result.now.number ≡ told = first_of (search rules, cc) in
      subst (λ (o : Option (List ℕ)). IfSome o (IsRowFor entered.row number told)) (sym (c.in-Ok.ensures.enters.unit.same refl))
      (subst (λ (o : Option (List ℕ)). IfSome (g.M.Medium.state c.args.unit.now).image (IsRowFor entered.row number o)) spared c.in-Ok.ensures.row.own);
}

-- ---- where no tear of a failed call is told no card has broken down

pub returns-in-Ok-clause-behind : goal.returns-in-Ok-clause-behind
returns-in-Ok-clause-behind g c = record {
  entered = record {
    ready = first_of (search rules, grind (arith, common_steps));
    rows = first_of (search rules, grind (arith, common_steps));
    stands = first_of (search rules, grind (arith, common_steps));
    cause = first_of (search rules, grind (arith, common_steps));
    card = first_of (search rules, grind (arith, common_steps));
    size = first_of (search rules, grind (arith, common_steps));
  };
  row = first_of (search rules, grind (arith, common_steps));
}

pub returns-in-Ok-clause-goes : goal.returns-in-Ok-clause-goes
returns-in-Ok-clause-goes g c = record {
  card = record {
    later = state-then (g.C.Chip.state c.args.card.now) (g.C.Chip.state c.enter.new.card) (g.C.Chip.state c.take_in.new.card) (state-by (g.C.Chip.state c.args.card.now) (g.C.Chip.state c.enter.new.card) _ c.enter.ensures.card.leaves.later c.in-Ok.ensures.enters.cause) c.take_in.ensures.goes.card.later;
    calm = card-first (g.C.Chip.state c.args.card.now) (g.C.Chip.state c.enter.new.card) (g.C.Chip.state c.take_in.new.card) (c.in-Ok.ensures.enters.cause.unbroken refl) c.take_in.ensures.goes.card.calm;
  };
  most =
      let same = c.in-Ok.ensures.enters.unit.clock in
      let last = c.take_in.ensures.goes.most.0 in
      let first = c.enter.ensures.most in
      let next = c.take_in.ensures.goes.most.1 in
      (omega (arith, same, last), omega (arith, first, next));
}

pub returns-in-Err-UnitFailed-clause-behind : goal.returns-in-Err-UnitFailed-clause-behind
returns-in-Err-UnitFailed-clause-behind g c = record {
  entered = record {
    ready = first_of (search rules, grind (arith, common_steps));
    rows = first_of (search rules, grind (arith, common_steps));
    stands = first_of (search rules, grind (arith, common_steps));
    cause = first_of (search rules, grind (arith, common_steps));
    card = first_of (search rules, grind (arith, common_steps));
    size = first_of (search rules, grind (arith, common_steps));
  };
  row = first_of (search rules, grind (arith, common_steps));
}

pub returns-in-Err-UnitFailed-clause-goes : goal.returns-in-Err-UnitFailed-clause-goes
returns-in-Err-UnitFailed-clause-goes g c = record {
  card = record {
    later = state-by (g.C.Chip.state c.args.card.now) (g.C.Chip.state c.enter.new.card) _ c.enter.ensures.card.leaves.later c.in-Err-UnitFailed.ensures.enters.cause;
    calm =
        let is : c.in-Err-UnitFailed.field-0 ≡ UnitFailed = cc (c.in-Err-UnitFailed.field-0-is) in
        card-rests refl (c.in-Err-UnitFailed.ensures.enters.cause.unbroken (ap (λ (f : NotEntered). card_failed {T = Entered} (Err f)) is));
  };
  most = let same = c.in-Err-UnitFailed.ensures.enters.unit.clock in let first = c.enter.ensures.most in (omega (arith, same), omega (arith, first));
}

pub returns-in-Err-CardFailed-clause-behind : goal.returns-in-Err-CardFailed-clause-behind
returns-in-Err-CardFailed-clause-behind g c = record {
  entered = record {
    ready = first_of (search rules, grind (arith, common_steps));
    rows = first_of (search rules, grind (arith, common_steps));
    stands = λ from le s. c.tear.ensures.stands from None s;
    cause = first_of (search rules, grind (arith, common_steps));
    card = first_of (search rules, grind (arith, common_steps));
    size = first_of (search rules, grind (arith, common_steps));
  };
  row = first_of (search rules, grind (arith, common_steps));
}

pub returns-in-Err-CardFailed-clause-goes : goal.returns-in-Err-CardFailed-clause-goes
returns-in-Err-CardFailed-clause-goes g c = record {
  card = record {
    later = state-by (g.C.Chip.state c.args.card.now) (g.C.Chip.state c.enter.new.card) _ c.enter.ensures.card.leaves.later c.in-Err-CardFailed.ensures.enters.cause;
    calm = card-fell c.args.beside.entering.slot c.args.beside.entering.at (ap (λ (l : Listed Break). l.items) c.tear.ensures.torn.told) c.in-Err-CardFailed.ensures.enters.cause.breakdowns c.in-Err-CardFailed.ensures.enters.cause.once;
  };
  most = let same = c.in-Err-CardFailed.ensures.enters.unit.clock in let last = c.tear.ensures.most in let first = c.enter.ensures.most in (omega (arith, same, last), omega (arith, first));
}

pub returns-in-Err-NotValid-clause-behind : goal.returns-in-Err-NotValid-clause-behind
returns-in-Err-NotValid-clause-behind g c = record {
  entered = record {
    ready = first_of (search rules, grind (arith, common_steps));
    rows = first_of (search rules, grind (arith, common_steps));
    stands = first_of (search rules, grind (arith, common_steps));
    cause = first_of (search rules, grind (arith, common_steps));
    card = first_of (search rules, grind (arith, common_steps));
    size = first_of (search rules, grind (arith, common_steps));
  };
  row = first_of (search rules, grind (arith, common_steps));
}

pub returns-in-Err-NotValid-clause-goes : goal.returns-in-Err-NotValid-clause-goes
returns-in-Err-NotValid-clause-goes g c = record {
  card = record {
    later = state-by (g.C.Chip.state c.args.card.now) (g.C.Chip.state c.enter.new.card) _ c.enter.ensures.card.leaves.later c.in-Err-NotValid.ensures.enters.cause;
    calm =
        let fid = c.in-Err-NotValid.fid in
        let place = c.in-Err-NotValid.place in
        let is : c.in-Err-NotValid.field-0 ≡ NotValid fid place = cc (c.in-Err-NotValid.field-0-is) in
        card-told [] (ap (λ (o : Outcome). o.breaks.items) c.refuse.ensures.told) refl (c.in-Err-NotValid.ensures.enters.cause.unbroken (ap (λ (f : NotEntered). card_failed {T = Entered} (Err f)) is));
  };
  most = let same = c.in-Err-NotValid.ensures.enters.unit.clock in let last = c.refuse.ensures.stands.most in let first = c.enter.ensures.most in (omega (arith, same, last), omega (arith, first));
}

pub returns-in-Err-TimeOverlap-clause-behind : goal.returns-in-Err-TimeOverlap-clause-behind
returns-in-Err-TimeOverlap-clause-behind g c = record {
  entered = record {
    ready = first_of (search rules, grind (arith, common_steps));
    rows = first_of (search rules, grind (arith, common_steps));
    stands = first_of (search rules, grind (arith, common_steps));
    cause = first_of (search rules, grind (arith, common_steps));
    card = first_of (search rules, grind (arith, common_steps));
    size = first_of (search rules, grind (arith, common_steps));
  };
  row = first_of (search rules, grind (arith, common_steps));
}

pub returns-in-Err-TimeOverlap-clause-goes : goal.returns-in-Err-TimeOverlap-clause-goes
returns-in-Err-TimeOverlap-clause-goes g c = record {
  card = record {
    later = state-by (g.C.Chip.state c.args.card.now) (g.C.Chip.state c.enter.new.card) _ c.enter.ensures.card.leaves.later c.in-Err-TimeOverlap.ensures.enters.cause;
    calm =
        let stored = c.in-Err-TimeOverlap.stored in
        let now = c.in-Err-TimeOverlap.field-0-1 in
        let is : c.in-Err-TimeOverlap.field-0 ≡ TimeOverlap stored now = cc (c.in-Err-TimeOverlap.field-0-is) in
        card-told [] (ap (λ (o : Outcome). o.breaks.items) c.defer.ensures.told) refl (c.in-Err-TimeOverlap.ensures.enters.cause.unbroken (ap (λ (f : NotEntered). card_failed {T = Entered} (Err f)) is));
  };
  most = let same = c.in-Err-TimeOverlap.ensures.enters.unit.clock in let last = c.defer.ensures.stands.most in let first = c.enter.ensures.most in (omega (arith, same, last), omega (arith, first));
}

-- ---- its writes

-- ---- what its acceptance asks

pub take_in-requires-clause-come : goal.take_in-requires-clause-come
take_in-requires-clause-come g c = c.requires.may.come

pub take_in-requires-clause-card : goal.take_in-requires-clause-card
take_in-requires-clause-card g c = record {
  sizes = c.requires.card.goes.sizes;
  port = c.enter.ensures.card.port;
  works = c.in-Ok.ensures.enters.cause.works;
}

pub enter-requires-clause-ready : goal.enter-requires-clause-ready
enter-requires-clause-ready g c = record {
  unit = c.requires.ready.is_unit;
  agrees = c.requires.ready.agrees;
}

pub enter-requires-clause-may : goal.enter-requires-clause-may
enter-requires-clause-may g c = record {
  late = c.requires.may.late;
  last = c.requires.may.last;
  fits = c.requires.may.come.fits;
}

pub tear-requires-clause-may : goal.tear-requires-clause-may
tear-requires-clause-may g c = record {
  minute = first_of (search rules, grind (arith, common_steps));
  second = first_of (search rules, grind (arith, common_steps));
  room = first_of (search rules, grind (arith, common_steps));
}

pub refuse-requires-clause-may : goal.refuse-requires-clause-may
refuse-requires-clause-may g c = record {
  second = first_of (search rules, grind (arith, common_steps));
  room = first_of (search rules, grind (arith, common_steps));
}

pub defer-requires-clause-may : goal.defer-requires-clause-may
defer-requires-clause-may g c = record {
  second = first_of (search rules, grind (arith, common_steps));
  room = first_of (search rules, grind (arith, common_steps));
}
