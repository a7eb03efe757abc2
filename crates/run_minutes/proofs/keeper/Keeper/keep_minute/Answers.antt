use Rattle.std.proofs.lemmas.Grind.{common_steps}
use Rattle.std.proofs.Common.{rules, [], ◌∷◌, ◌≡◌, ◌∙◌, ℕ, ◌+◌, ◌/◌, ◌≤◌, Bool, true, false, length, Some, None, refl, ap, sym, subst, arith}
use Rattle.std.specs.Prelude.{is_err}
use Rattle.activity_codec.specs.declared.values.Slot.TheVariants.{Driver, CoDriver}
use Rattle.card_session.specs.declared.session.Kept.{Kept}
use Rattle.log_model.specs.declared.lines.Mark.{Mark}
use Rattle.run_outcome.specs.Lines.{Listed}
use Rattle.tach_media.proofs.Runs.{cause_after}
use Rattle.run_crew.specs.Cabin.{CabinIsSound, CanKeepNext}
use Rattle.run_minutes.specs.declared.keeper.Keeper.{Keeper}
use Rattle.run_devices.specs.safety_model.Safe.{card_of}
use Rattle.run_devices.specs.run_promise.Found.{found_of}
use Rattle.run_devices.specs.run_promise.Between.{devices}
use Rattle.unit_minutes.specs.declared.notes.Notes.{Notes}
use Rattle.run_minutes.specs.Keeping.{CardMayBeCalled, Still, IsBrought, cabin_by, kept_in, session_at, held_in, state_at, most_tears}
use Rattle.run_minutes.specs.Minutes.{unit_mark}
use Rattle.run_minutes.specs.Owing.{BooksBrought}
use Rattle.run_devices.specs.Measured.{reading_at}
use Rattle.run_minutes.proofs.CardEvents.{stays-self}
use Rattle.run_minutes.proofs.MinuteBooked.{timed-at, clock-rests, booked-cut, booked-whole}
use Rattle.run_minutes.proofs.Faults.{brought-notes, round-cut, round-whole}
use Rattle.run_minutes.proofs.Counts.{tears-one, lines-length, first-stays, second-stays}
use Rattle.run_minutes.proofs.Rounds.{told-of, told-same, round-of, brought-minute, brought-tears, brought-tear-room, brought-marks, brought-mark-room, cut-is, cut-told, whole-driver, whole-codriver, whole-is, whole-told}
use Rattle.run_minutes.proofs.Units.{unit-stays}
use Rattle.run_minutes.proofs.Seats.{stays-none, other-ready}
use Rattle.run_events.proofs.run_speeds.Leaving.{leaves-then}
use Rattle.run_crew.specs.declared.cards.Cards.{Cards}
use Rattle.run_minutes.specs.Kept.{Keeps}
use Rattle.run_minutes.specs.Stand.{StandsAfter, KeepingGoes, standing}
use Rattle.run_minutes.proofs.Sessions.{stands-later}
use Rattle.run_minutes.proofs.Goes.{goes_of_unit, keeping_then, bare-none}
use Rattle.run_minutes.specs.Writes.{keep_most, minute_most}
use Rattle.run_minutes.proofs.Writes.{wrote-then, wrote-more, wrote-unit}
use Rattle.run_minutes.proofs.keeper.Keeper.keep_minute.Goals as goal
use Rattle.run_outcome.specs.declared.outcome.Outcome.{Outcome}

-- ---- the unit failed before

pub returns-in_err-acknowledge-clause-kept : goal.returns-in_err-acknowledge-clause-kept
returns-in_err-acknowledge-clause-kept g c =
    let k = c.args.self.now in
    let p = c.args.said.present in
    let m = c.args.said.minute in
    let U = g.M.Medium.state c.args.unit.now in
    let V = g.M.Medium.state c.acknowledge.new.unit in
    let X = g.C.Chip.state c.args.card_a.now in
    let Y = g.D.Chip.state c.args.card_b.now in
    let failed : true ≡ is_err c.from_residual.result = search rules in
    let same = c.in_err-acknowledge.ensures.kept.same in
    let keeper : c.acknowledge.new.self ≡ k = c.acknowledge.ensures.kept.keeper ∙ ap (λ (j : Notes). record k { journal = j }) same.0 in
    let few = ap (λ (l : Listed Mark). length l.items) same.1 in
    let s = standing c.args.self.now c.args.outcome.now.marks c.args.outcome.now.breaks (g.M.Medium.state c.args.unit.now) (g.C.Chip.state c.args.card_a.now) (g.D.Chip.state c.args.card_b.now) (g.C.Chip.card c.args.card_a.now) (g.D.Chip.card c.args.card_b.now) in
    let t = standing c.acknowledge.new.self c.acknowledge.new.marks c.args.outcome.now.breaks (g.M.Medium.state c.acknowledge.new.unit) (g.C.Chip.state c.args.card_a.now) (g.D.Chip.state c.args.card_b.now) (g.C.Chip.card c.args.card_a.now) (g.D.Chip.card c.args.card_b.now) in
    subst (λ (f : Bool). Keeps m p c.args.said.at f s t) failed (record {
      round = None;
      is = (refl, told-same c.acknowledge.new.self k c.acknowledge.new.marks c.args.outcome.now.marks c.args.outcome.now.breaks c.args.outcome.now.breaks keeper same.1 refl);
      books = λ says. λ f w start v leg may gone odometer time. (c.in_err-acknowledge.ensures.booked says f w start v leg (record { booked = may.booked; comes = may.comes }) gone odometer time.unit, timed-at f (reading_at m.minute m.odometer.0 ∷ []) U V X Y (devices V X Y) (λ card valid. stays-self (found_of f card) (reading_at m.minute m.odometer.0 ∷ []) (card_of (devices V X Y) card)), λ well. absurd (cc));
      noted = c.in_err-acknowledge.ensures.goes.all.quiet;
      last = λ well. absurd (cc);
      clock = tt;
      spared = λ none. (refl, refl);
      marks = omega (arith, few);
      stands = λ from leaving le h. subst (λ (q : Keeper). CabinIsSound (m.minute + 1) leaving q.cabin) (sym c.acknowledge.ensures.kept.keeper) (stands-later from (m.minute + 1) le leaving k.cabin h);
    })

pub returns-in_err-acknowledge-clause-stands : goal.returns-in_err-acknowledge-clause-stands
returns-in_err-acknowledge-clause-stands g c =
    let failed : true ≡ is_err c.from_residual.result = search rules in
    let X = g.C.Chip.state c.args.card_a.now in
    let Y = g.D.Chip.state c.args.card_b.now in
    let s = standing c.args.self.now c.args.outcome.now.marks c.args.outcome.now.breaks (g.M.Medium.state c.args.unit.now) (g.C.Chip.state c.args.card_a.now) (g.D.Chip.state c.args.card_b.now) (g.C.Chip.card c.args.card_a.now) (g.D.Chip.card c.args.card_b.now) in
    let t = standing c.acknowledge.new.self c.acknowledge.new.marks c.args.outcome.now.breaks (g.M.Medium.state c.acknowledge.new.unit) (g.C.Chip.state c.args.card_a.now) (g.D.Chip.state c.args.card_b.now) (g.C.Chip.card c.args.card_a.now) (g.D.Chip.card c.args.card_b.now) in
    subst (λ (f : Bool). StandsAfter c.args.said.at f s t) failed (record {
      unit = c.acknowledge.ensures.stands.unit;
      card_a = subst (λ (q : Keeper). CardMayBeCalled q.cabin.cards.a (g.C.Chip.card c.args.card_a.now) X) (sym c.acknowledge.ensures.kept.keeper) c.requires.ready.card_a;
      card_b = subst (λ (q : Keeper). CardMayBeCalled q.cabin.cards.b (g.D.Chip.card c.args.card_b.now) Y) (sym c.acknowledge.ensures.kept.keeper) c.requires.ready.card_b;
      minute = subst (λ (q : Keeper). q.cabin.slots.minute ≤ c.args.said.at.second / 60) (sym c.acknowledge.ensures.kept.keeper) c.requires.may.early;
      cause = c.in_err-acknowledge.ensures.goes.all.cause;
      ready = λ well. absurd (cc);
      rows = λ well card h. absurd (cc);
    })

pub returns-in_err-acknowledge-clause-goes : goal.returns-in_err-acknowledge-clause-goes
returns-in_err-acknowledge-clause-goes g c = record {
  keeping =
      goes_of_unit c.args.self.now c.acknowledge.new.self c.args.outcome.now.marks c.acknowledge.new.marks c.args.outcome.now.breaks (g.C.Chip.state c.args.card_a.now) (g.D.Chip.state c.args.card_b.now) (g.C.Chip.card c.args.card_a.now) (g.D.Chip.card c.args.card_b.now)
      c.acknowledge.ensures.kept.keeper (ap (λ (l : Listed Mark). l.room) c.in_err-acknowledge.ensures.kept.same.1) c.acknowledge.ensures.goes.all;
  most =
      let X = g.C.Chip.state c.args.card_a.now in
      let Y = g.D.Chip.state c.args.card_b.now in
      let U = g.M.Medium.state c.args.unit.now in
      let V = g.M.Medium.state c.acknowledge.new.unit in
      wrote-more 18 26 0 minute_most (devices U X Y) (devices V X Y) (omega arith) (omega arith) (wrote-unit 18 0 U V X Y c.acknowledge.ensures.goes.most);
  speeds = c.acknowledge.ensures.goes.all.speeds;
}

-- ---- what each entry asks

pub bring-requires-clause-ready : goal.bring-requires-clause-ready
bring-requires-clause-ready g c = record {
  unit_ready = c.in_ok-acknowledge.ensures.stands.ready refl;
  card_a = subst (λ (q : Keeper). CardMayBeCalled q.cabin.cards.a (g.C.Chip.card c.args.card_a.now) (g.C.Chip.state c.args.card_a.now)) (sym c.acknowledge.ensures.kept.keeper) c.requires.ready.card_a;
  card_b = subst (λ (q : Keeper). CardMayBeCalled q.cabin.cards.b (g.D.Chip.card c.args.card_b.now) (g.D.Chip.state c.args.card_b.now)) (sym c.acknowledge.ensures.kept.keeper) c.requires.ready.card_b;
}

pub bring-requires-clause-may : goal.bring-requires-clause-may
bring-requires-clause-may g c = record {
  behind =
      let o = c.args.said.present.driver in
      let m = c.args.said.minute.minute in
      let e : c.kept_in-driver.result.entry.minute ≡ m = ap (λ (q : Kept). q.entry.minute) c.kept_in-driver.ensures in
      subst (λ (n : ℕ). CanKeepNext c.acknowledge.new.self.cabin.cards n o) (sym e) (subst (λ (q : Keeper). CanKeepNext q.cabin.cards m o) (sym c.acknowledge.ensures.kept.keeper) c.requires.may.kept.driver);
  first =
      let e : c.kept_in-driver.result.entry.minute ≡ c.args.said.minute.minute = ap (λ (q : Kept). q.entry.minute) c.kept_in-driver.ensures in
      let low : 1440 ≤ c.args.said.minute.minute = c.requires.may.low in
      omega (arith, e, low);
  last =
      let e : c.kept_in-driver.result.entry.minute ≡ c.args.said.minute.minute = ap (λ (q : Kept). q.entry.minute) c.kept_in-driver.ensures in
      let most = c.requires.may.small in
      omega (arith, e, most);
  fits =
      let e : c.kept_in-driver.result.odometer.0 ≡ c.args.said.minute.odometer.0 = ap (λ (q : Kept). q.odometer.0) c.kept_in-driver.ensures in
      let most = c.requires.may.odometer in
      first_of (omega (arith, e, most), search rules, grind (arith, common_steps));
  minute = subst (λ (q : Keeper). q.cabin.slots.minute ≤ c.args.said.at.second / 60) (sym c.acknowledge.ensures.kept.keeper) c.requires.may.early;
  second = c.requires.may.second;
  mark_room =
      let here : length c.acknowledge.new.marks.items ≡ length c.args.outcome.now.marks.items + 1 = ap (λ (l : Listed Mark). length l.items) c.in_ok-acknowledge.ensures.kept.marked ∙ lines-length (unit_mark c.args.said.minute.minute (g.M.Medium.state c.acknowledge.new.unit).clock ∷ []) c.args.outcome.now.marks in
      let room : c.acknowledge.new.marks.room ≡ c.args.outcome.now.marks.room = ap (λ (l : Listed Mark). l.room) c.in_ok-acknowledge.ensures.kept.marked in
      let most : length c.args.outcome.now.marks.items + 3 ≤ c.args.outcome.now.marks.room = c.requires.may.marks in
      omega (arith, here, room, most);
  break_room =
      let one = tears-one c.args.said.present.driver c.acknowledge.new.self.cabin.cards in
      let same : most_tears c.acknowledge.new.self.cabin.cards ≡ most_tears c.args.self.now.cabin.cards = ap (λ (q : Keeper). most_tears q.cabin.cards) c.acknowledge.ensures.kept.keeper in
      let room : length c.args.outcome.now.breaks.items + most_tears c.args.self.now.cabin.cards ≤ c.args.outcome.now.breaks.room = c.requires.may.breaks in
      omega (arith, one, same, room);
}

-- ---- it failed as it noted that the driver's card was torn out

pub returns-in_err-bring-clause-kept : goal.returns-in_err-bring-clause-kept
returns-in_err-bring-clause-kept g c =
    let k = c.args.self.now in
    let p = c.args.said.present in
    let m = c.args.said.minute in
    let U = g.M.Medium.state c.acknowledge.new.unit in
    let V = g.M.Medium.state c.bring.new.unit in
    let X = state_at p.driver (g.C.Chip.state c.args.card_a.now) (g.D.Chip.state c.args.card_b.now) in
    let Y = state_at p.driver (g.C.Chip.state c.bring.new.card_a) (g.D.Chip.state c.bring.new.card_b) in
    let failed : true ≡ is_err c.from_residual-in_err-bring.result = search rules in
    let notes = c.in_ok-acknowledge.ensures.kept.notes in
    let was = c.in_err-bring.ensures.brought in
    let b : IsBrought p.driver (kept_in m Driver) c.args.said.at true c.acknowledge.new.self c.bring.new.self c.acknowledge.new.marks c.bring.new.outcome.marks c.args.outcome.now.breaks c.bring.new.outcome.breaks was.0 U V X Y =
    subst (λ (q : Kept). IsBrought p.driver q c.args.said.at true c.acknowledge.new.self c.bring.new.self c.acknowledge.new.marks c.bring.new.outcome.marks c.args.outcome.now.breaks c.bring.new.outcome.breaks was.0 U V X Y) c.kept_in-driver.ensures was.1 in
    let clock : ℕ = U.clock in
    let A0 = g.C.Chip.state c.args.card_a.now in
    let A1 = g.C.Chip.state c.bring.new.card_a in
    let B0 = g.D.Chip.state c.args.card_b.now in
    let B1 = g.D.Chip.state c.bring.new.card_b in
    let first : BooksBrought p.driver (kept_in m Driver) true was.0 c.acknowledge.new.self.cabin.cards c.bring.new.self.cabin.cards (devices U A0 B0) (devices V A1 B1) =
    subst (λ (q : Kept). BooksBrought p.driver q true was.0 c.acknowledge.new.self.cabin.cards c.bring.new.self.cabin.cards (devices U A0 B0) (devices V A1 B1)) c.kept_in-driver.ensures was.3 in
    let one = brought-marks _ _ _ _ _ _ _ _ _ _ _ _ _ _ _ was.1 in
    let here : length c.acknowledge.new.marks.items ≡ length c.args.outcome.now.marks.items + 1 = ap (λ (l : Listed Mark). length l.items) c.in_ok-acknowledge.ensures.kept.marked ∙ lines-length (unit_mark m.minute clock ∷ []) c.args.outcome.now.marks in
    let same : c.kept_in-driver.result.entry.minute ≡ m.minute = ap (λ (q : Kept). q.entry.minute) c.kept_in-driver.ensures in
    let s = standing c.args.self.now c.args.outcome.now.marks c.args.outcome.now.breaks (g.M.Medium.state c.args.unit.now) (g.C.Chip.state c.args.card_a.now) (g.D.Chip.state c.args.card_b.now) (g.C.Chip.card c.args.card_a.now) (g.D.Chip.card c.args.card_b.now) in
    let u = standing c.bring.new.self c.bring.new.outcome.marks c.bring.new.outcome.breaks (g.M.Medium.state c.bring.new.unit) (g.C.Chip.state c.bring.new.card_a) (g.D.Chip.state c.bring.new.card_b) (g.C.Chip.card c.bring.new.card_a) (g.D.Chip.card c.bring.new.card_b) in
    subst (λ (f : Bool). Keeps m p c.args.said.at f s u) failed (record {
      round = Some (round-of p c.args.said.at.second k.cabin c.acknowledge.new.self.journal clock was.0 Still);
      is = (
        cut-is p m c.args.said.at k c.args.outcome.now.marks c.args.outcome.now.breaks c.acknowledge.new.self.journal clock notes.0 notes.1 c.acknowledge.new.self c.acknowledge.ensures.kept.keeper c.acknowledge.new.marks c.in_ok-acknowledge.ensures.kept.marked
            c.bring.new.self c.bring.new.outcome.marks c.bring.new.outcome.breaks was.0 U V X Y b,
        record { driver = b.on_card; codriver = tt },
        cut-told p m c.args.said.at k c.args.outcome.now.marks c.args.outcome.now.breaks c.acknowledge.new.self.journal clock notes.0 notes.1 c.acknowledge.new.self c.acknowledge.ensures.kept.keeper c.acknowledge.new.marks c.in_ok-acknowledge.ensures.kept.marked
            c.bring.new.self c.bring.new.outcome.marks c.bring.new.outcome.breaks was.0 U V X Y b,
      );
      books = λ says. booked-cut m p says c.requires.may.kept.apart k c.acknowledge.new.self c.args.outcome.now.marks c.args.outcome.now.breaks (ap (λ (q : Keeper). q.cabin.cards) c.acknowledge.ensures.kept.keeper) (g.M.Medium.state c.args.unit.now) U A0 B0
          (c.in_ok-acknowledge.ensures.booked says) true was.0 c.bring.new.self c.args.said.at.second b.keeper V A1 B1 first refl (g.met.M.Medium.coherent c.acknowledge.new.unit) c.bring.ensures.journal (told-of c.bring.new.self c.bring.new.outcome.marks c.bring.new.outcome.breaks)
          (round-of p c.args.said.at.second k.cabin c.acknowledge.new.self.journal clock was.0 Still) refl refl refl
          (sym (ap (λ (q : Keeper). held_in (session_at q.cabin.cards p.driver)) c.acknowledge.ensures.kept.keeper));
      noted = round-cut p c.args.said.at (round-of p c.args.said.at.second k.cabin c.acknowledge.new.self.journal clock was.0 Still) k.cabin (g.M.Medium.state c.args.unit.now) U V refl c.in_ok-acknowledge.ensures.goes.all.quiet
          (brought-notes p.driver (kept_in m Driver) c.args.said.at true c.acknowledge.new.self c.bring.new.self c.acknowledge.new.marks c.bring.new.outcome.marks c.args.outcome.now.breaks c.bring.new.outcome.breaks was.0 U V X Y b
          (g.met.M.Medium.coherent c.acknowledge.new.unit) (g.met.M.Medium.coherent c.bring.new.unit) was.2 c.in_err-bring.ensures.stands.cause k.cabin (ap (λ (q : Keeper). q.cabin) c.acknowledge.ensures.kept.keeper));
      last = λ well. absurd (cc);
      clock = (c.in_ok-acknowledge.ensures.goes.all.clock, c.bring.ensures.goes.keeping.all.later.unit.clock);
      spared = λ none. absurd (cc);
      marks = omega (arith, one, here);
      stands = λ from leaving le h. subst (λ (n : ℕ). CabinIsSound (n + 1) leaving c.bring.new.self.cabin) same
          (c.bring.ensures.cabin from leaving (omega (arith, le, same)) (subst (λ (q : Keeper). CabinIsSound from leaving q.cabin) (sym c.acknowledge.ensures.kept.keeper) h));
    })

pub returns-in_err-bring-clause-stands : goal.returns-in_err-bring-clause-stands
returns-in_err-bring-clause-stands g c =
    let failed : true ≡ is_err c.from_residual-in_err-bring.result = search rules in
    let s = standing c.args.self.now c.args.outcome.now.marks c.args.outcome.now.breaks (g.M.Medium.state c.args.unit.now) (g.C.Chip.state c.args.card_a.now) (g.D.Chip.state c.args.card_b.now) (g.C.Chip.card c.args.card_a.now) (g.D.Chip.card c.args.card_b.now) in
    let u = standing c.bring.new.self c.bring.new.outcome.marks c.bring.new.outcome.breaks (g.M.Medium.state c.bring.new.unit) (g.C.Chip.state c.bring.new.card_a) (g.D.Chip.state c.bring.new.card_b) (g.C.Chip.card c.bring.new.card_a) (g.D.Chip.card c.bring.new.card_b) in
    subst (λ (f : Bool). StandsAfter c.args.said.at f s u) failed (record {
      unit = unit-stays c.bring.ensures.journal c.acknowledge.ensures.stands.unit;
      card_a = c.bring.ensures.stands.card_a;
      card_b = c.bring.ensures.stands.card_b;
      minute = brought-minute _ _ _ _ _ _ _ _ _ _ _ _ _ _ _ c.bring.ensures.brought.1 (subst (λ (q : Keeper). q.cabin.slots.minute ≤ c.args.said.at.second / 60) (sym c.acknowledge.ensures.kept.keeper) c.requires.may.early);
      cause = cause_after c.in_ok-acknowledge.ensures.goes.all.cause c.in_err-bring.ensures.stands.cause;
      ready = λ well. absurd (cc);
      rows = λ well card h. absurd (cc);
    })

pub returns-in_err-bring-clause-goes : goal.returns-in_err-bring-clause-goes
returns-in_err-bring-clause-goes g c = record {
  keeping =
      let s = standing c.args.self.now c.args.outcome.now.marks c.args.outcome.now.breaks (g.M.Medium.state c.args.unit.now) (g.C.Chip.state c.args.card_a.now) (g.D.Chip.state c.args.card_b.now) (g.C.Chip.card c.args.card_a.now) (g.D.Chip.card c.args.card_b.now) in
      let t = standing c.acknowledge.new.self c.acknowledge.new.marks c.args.outcome.now.breaks (g.M.Medium.state c.acknowledge.new.unit) (g.C.Chip.state c.args.card_a.now) (g.D.Chip.state c.args.card_b.now) (g.C.Chip.card c.args.card_a.now) (g.D.Chip.card c.args.card_b.now) in
      let first : KeepingGoes s t = goes_of_unit c.args.self.now c.acknowledge.new.self c.args.outcome.now.marks c.acknowledge.new.marks c.args.outcome.now.breaks (g.C.Chip.state c.args.card_a.now) (g.D.Chip.state c.args.card_b.now) (g.C.Chip.card c.args.card_a.now) (g.D.Chip.card c.args.card_b.now)
      c.acknowledge.ensures.kept.keeper (ap (λ (l : Listed Mark). l.room) c.in_ok-acknowledge.ensures.kept.marked) c.acknowledge.ensures.goes.all in
      keeping_then first c.bring.ensures.goes.keeping;
  most =
      let X = g.C.Chip.state c.args.card_a.now in
      let Y = g.D.Chip.state c.args.card_b.now in
      let U = g.M.Medium.state c.args.unit.now in
      let V = g.M.Medium.state c.acknowledge.new.unit in
      let last = devices (g.M.Medium.state c.bring.new.unit) (g.C.Chip.state c.bring.new.card_a) (g.D.Chip.state c.bring.new.card_b) in
      wrote-more (18 + 4) 26 (0 + keep_most) minute_most (devices U X Y) last (omega arith) (omega arith) (wrote-then 18 4 0 keep_most (devices U X Y) (devices V X Y) last (wrote-unit 18 0 U V X Y c.acknowledge.ensures.goes.most) c.bring.ensures.goes.most);
  speeds = leaves-then (g.M.Medium.state c.args.unit.now) (g.M.Medium.state c.acknowledge.new.unit) (g.M.Medium.state c.bring.new.unit) c.acknowledge.ensures.goes.all.speeds c.bring.ensures.goes.speeds;
}

-- ---- both entries were brought

pub bring-requires-2-clause-ready : goal.bring-requires-2-clause-ready
bring-requires-2-clause-ready g c = c.in_ok-bring.ensures.stands.ready refl

pub bring-requires-2-clause-may : goal.bring-requires-2-clause-may
bring-requires-2-clause-may g c = record {
  behind =
      let o = c.args.said.present.driver in
      let p = c.args.said.present.codriver in
      let m = c.args.said.minute.minute in
      let was = c.in_ok-bring.ensures.brought in
      let e : c.kept_in-codriver.result.entry.minute ≡ m = ap (λ (q : Kept). q.entry.minute) c.kept_in-codriver.ensures in
      let first : CanKeepNext c.acknowledge.new.self.cabin.cards m p = subst (λ (q : Keeper). CanKeepNext q.cabin.cards m p) (sym c.acknowledge.ensures.kept.keeper) c.requires.may.kept.codriver in
      subst (λ (n : ℕ). CanKeepNext c.bring.new.self.cabin.cards n p) (sym e)
      (subst (λ (q : Keeper). CanKeepNext q.cabin.cards m p) (sym was.1.keeper) (other-ready o p c.requires.may.kept.apart was.0 c.args.said.at.second c.acknowledge.new.self.cabin m first));
  first =
      let e : c.kept_in-codriver.result.entry.minute ≡ c.args.said.minute.minute = ap (λ (q : Kept). q.entry.minute) c.kept_in-codriver.ensures in
      let low : 1440 ≤ c.args.said.minute.minute = c.requires.may.low in
      omega (arith, e, low);
  last =
      let e : c.kept_in-codriver.result.entry.minute ≡ c.args.said.minute.minute = ap (λ (q : Kept). q.entry.minute) c.kept_in-codriver.ensures in
      let most = c.requires.may.small in
      omega (arith, e, most);
  fits =
      let e : c.kept_in-codriver.result.odometer.0 ≡ c.args.said.minute.odometer.0 = ap (λ (q : Kept). q.odometer.0) c.kept_in-codriver.ensures in
      let most = c.requires.may.odometer in
      first_of (omega (arith, e, most), search rules, grind (arith, common_steps));
  minute = brought-minute _ _ _ _ _ _ _ _ _ _ _ _ _ _ _ c.in_ok-bring.ensures.brought.1 (subst (λ (q : Keeper). q.cabin.slots.minute ≤ c.args.said.at.second / 60) (sym c.acknowledge.ensures.kept.keeper) c.requires.may.early);
  second = c.requires.may.second;
  mark_room =
      let b = c.in_ok-bring.ensures.brought.1 in
      let one = brought-marks _ _ _ _ _ _ _ _ _ _ _ _ _ _ _ b in
      let here : length c.acknowledge.new.marks.items ≡ length c.args.outcome.now.marks.items + 1 = ap (λ (l : Listed Mark). length l.items) c.in_ok-acknowledge.ensures.kept.marked ∙ lines-length (unit_mark c.args.said.minute.minute (g.M.Medium.state c.acknowledge.new.unit).clock ∷ []) c.args.outcome.now.marks in
      let room : c.acknowledge.new.marks.room ≡ c.args.outcome.now.marks.room = ap (λ (l : Listed Mark). l.room) c.in_ok-acknowledge.ensures.kept.marked in
      let same = brought-mark-room _ _ _ _ _ _ _ _ _ _ _ _ _ _ _ b in
      let most : length c.args.outcome.now.marks.items + 3 ≤ c.args.outcome.now.marks.room = c.requires.may.marks in
      omega (arith, one, here, room, same, most);
  break_room =
      let b = c.in_ok-bring.ensures.brought.1 in
      let t = brought-tears _ _ _ _ _ _ _ _ _ _ _ _ _ _ _ b in
      let r = brought-tear-room _ _ _ _ _ _ _ _ _ _ _ _ _ _ _ b in
      let one = tears-one c.args.said.present.codriver c.bring.new.self.cabin.cards in
      let same : most_tears c.acknowledge.new.self.cabin.cards ≡ most_tears c.args.self.now.cabin.cards = ap (λ (q : Keeper). most_tears q.cabin.cards) c.acknowledge.ensures.kept.keeper in
      let room : length c.args.outcome.now.breaks.items + most_tears c.args.self.now.cabin.cards ≤ c.args.outcome.now.breaks.room = c.requires.may.breaks in
      omega (arith, t, r, one, same, room);
}

pub returns-clause-kept : goal.returns-clause-kept
returns-clause-kept g c =
    let k = c.args.self.now in
    let p = c.args.said.present in
    let m = c.args.said.minute in
    let U = g.M.Medium.state c.acknowledge.new.unit in
    let V = g.M.Medium.state c.bring.new.unit in
    let W = g.M.Medium.state c.bring-2.new.unit in
    let A0 = g.C.Chip.state c.args.card_a.now in
    let A1 = g.C.Chip.state c.bring.new.card_a in
    let A2 = g.C.Chip.state c.bring-2.new.card_a in
    let B0 = g.D.Chip.state c.args.card_b.now in
    let B1 = g.D.Chip.state c.bring.new.card_b in
    let B2 = g.D.Chip.state c.bring-2.new.card_b in
    let notes = c.in_ok-acknowledge.ensures.kept.notes in
    let failed : Bool = is_err c.bring-2.result in
    let was = c.in_ok-bring.ensures.brought in
    let is = c.bring-2.ensures.brought in
    let b : IsBrought p.driver (kept_in m Driver) c.args.said.at false c.acknowledge.new.self c.bring.new.self c.acknowledge.new.marks c.bring.new.outcome.marks c.args.outcome.now.breaks c.bring.new.outcome.breaks was.0 U V (state_at p.driver A0 B0) (state_at p.driver A1 B1) =
    subst (λ (q : Kept). IsBrought p.driver q c.args.said.at false c.acknowledge.new.self c.bring.new.self c.acknowledge.new.marks c.bring.new.outcome.marks c.args.outcome.now.breaks c.bring.new.outcome.breaks was.0 U V (state_at p.driver A0 B0) (state_at p.driver A1 B1)) c.kept_in-driver.ensures was.1 in
    let d : IsBrought p.codriver (kept_in m CoDriver) c.args.said.at failed c.bring.new.self c.bring-2.new.self c.bring.new.outcome.marks c.bring-2.new.outcome.marks c.bring.new.outcome.breaks c.bring-2.new.outcome.breaks is.0 V W (state_at p.codriver A1 B1) (state_at p.codriver A2 B2) =
    subst (λ (q : Kept). IsBrought p.codriver q c.args.said.at failed c.bring.new.self c.bring-2.new.self c.bring.new.outcome.marks c.bring-2.new.outcome.marks c.bring.new.outcome.breaks c.bring-2.new.outcome.breaks is.0 V W (state_at p.codriver A1 B1) (state_at p.codriver A2 B2)) c.kept_in-codriver.ensures is.1 in
    let clock : ℕ = U.clock in
    let j = c.acknowledge.new.self.journal in
    let one = whole-driver p m c.args.said.at k c.args.outcome.now.marks c.args.outcome.now.breaks j clock notes.0 notes.1 c.acknowledge.new.self c.acknowledge.ensures.kept.keeper c.acknowledge.new.marks c.in_ok-acknowledge.ensures.kept.marked
    c.bring.new.self c.bring-2.new.self c.bring.new.outcome.marks c.bring-2.new.outcome.marks c.bring.new.outcome.breaks c.bring-2.new.outcome.breaks failed was.0 is.0 U V (state_at p.driver A0 B0) (state_at p.driver A1 B1) V W (state_at p.codriver A1 B1) (state_at p.codriver A2 B2) b d in
    let two = whole-codriver p m c.args.said.at k c.args.outcome.now.marks c.args.outcome.now.breaks j clock notes.0 notes.1 c.acknowledge.new.self c.acknowledge.ensures.kept.keeper c.acknowledge.new.marks c.in_ok-acknowledge.ensures.kept.marked
    c.bring.new.self c.bring-2.new.self c.bring.new.outcome.marks c.bring-2.new.outcome.marks c.bring.new.outcome.breaks c.bring-2.new.outcome.breaks failed was.0 is.0 U V (state_at p.driver A0 B0) (state_at p.driver A1 B1) V W (state_at p.codriver A1 B1) (state_at p.codriver A2 B2) b d in
    let e : c.kept_in-driver.result.entry.minute ≡ m.minute = ap (λ (q : Kept). q.entry.minute) c.kept_in-driver.ensures in
    let f : c.kept_in-codriver.result.entry.minute ≡ m.minute = ap (λ (q : Kept). q.entry.minute) c.kept_in-codriver.ensures in
    let few = brought-marks _ _ _ _ _ _ _ _ _ _ _ _ _ _ _ was.1 in
    let more = brought-marks _ _ _ _ _ _ _ _ _ _ _ _ _ _ _ is.1 in
    let here : length c.acknowledge.new.marks.items ≡ length c.args.outcome.now.marks.items + 1 = ap (λ (l : Listed Mark). length l.items) c.in_ok-acknowledge.ensures.kept.marked ∙ lines-length (unit_mark m.minute clock ∷ []) c.args.outcome.now.marks in
    record {
      round = Some (round-of p c.args.said.at.second k.cabin j clock was.0 is.0);
      is = (
        whole-is p m c.args.said.at k c.args.outcome.now.marks c.args.outcome.now.breaks j clock notes.0 notes.1 c.acknowledge.new.self c.acknowledge.ensures.kept.keeper c.acknowledge.new.marks c.in_ok-acknowledge.ensures.kept.marked
            c.bring.new.self c.bring-2.new.self c.bring.new.outcome.marks c.bring-2.new.outcome.marks c.bring.new.outcome.breaks c.bring-2.new.outcome.breaks failed was.0 is.0 U V (state_at p.driver A0 B0) (state_at p.driver A1 B1) V W (state_at p.codriver A1 B1) (state_at p.codriver A2 B2) b d,
        record {
          driver = first-stays g.C.Chip.state g.D.Chip.state was.0 (kept_in m Driver) p.driver p.codriver k.cabin.cards c.requires.may.kept.apart one A0 c.bring.new.card_a c.bring-2.new.card_a c.bring.new.card_b c.bring-2.new.card_b B0
              c.bring-2.ensures.calls.out.card_a c.bring-2.ensures.calls.out.card_b b.on_card;
          codriver = second-stays g.C.Chip.state g.D.Chip.state is.0 (kept_in m CoDriver) p.driver p.codriver (cabin_by was.0 p.driver c.args.said.at.second k.cabin).cards c.requires.may.kept.apart two A2 c.args.card_a.now c.bring.new.card_a c.args.card_b.now c.bring.new.card_b B2
              c.bring.ensures.calls.out.card_a c.bring.ensures.calls.out.card_b d.on_card;
        },
        whole-told p m c.args.said.at k c.args.outcome.now.marks c.args.outcome.now.breaks j clock notes.0 notes.1 c.acknowledge.new.self c.acknowledge.ensures.kept.keeper c.acknowledge.new.marks c.in_ok-acknowledge.ensures.kept.marked
            c.bring.new.self c.bring-2.new.self c.bring.new.outcome.marks c.bring-2.new.outcome.marks c.bring.new.outcome.breaks c.bring-2.new.outcome.breaks failed was.0 is.0 U V (state_at p.driver A0 B0) (state_at p.driver A1 B1) V W (state_at p.codriver A1 B1) (state_at p.codriver A2 B2) b d,
      );
      books = λ says.
          let first : BooksBrought p.driver (kept_in m Driver) false was.0 c.acknowledge.new.self.cabin.cards c.bring.new.self.cabin.cards (devices U A0 B0) (devices V A1 B1) =
          subst (λ (q : Kept). BooksBrought p.driver q false was.0 c.acknowledge.new.self.cabin.cards c.bring.new.self.cabin.cards (devices U A0 B0) (devices V A1 B1)) c.kept_in-driver.ensures was.3 in
          let second : BooksBrought p.codriver (kept_in m CoDriver) failed is.0 c.bring.new.self.cabin.cards c.bring-2.new.self.cabin.cards (devices V A1 B1) (devices W A2 B2) =
          subst (λ (q : Kept). BooksBrought p.codriver q failed is.0 c.bring.new.self.cabin.cards c.bring-2.new.self.cabin.cards (devices V A1 B1) (devices W A2 B2)) c.kept_in-codriver.ensures is.3 in
          booked-whole m p says c.requires.may.kept.apart k c.acknowledge.new.self c.args.outcome.now.marks c.args.outcome.now.breaks (ap (λ (q : Keeper). q.cabin.cards) c.acknowledge.ensures.kept.keeper) (g.M.Medium.state c.args.unit.now) U A0 B0
          (c.in_ok-acknowledge.ensures.booked says) false was.0 c.bring.new.self c.args.said.at.second b.keeper V A1 B1 first refl failed is.0 c.bring-2.new.self d.keeper W A2 B2 second
          (λ none. clock-rests g.C.Chip.state c.bring.new.card_a c.bring-2.new.card_a (c.bring-2.ensures.calls.out.card_a none)) (λ none. clock-rests g.D.Chip.state c.bring.new.card_b c.bring-2.new.card_b (c.bring-2.ensures.calls.out.card_b none))
          (g.met.M.Medium.coherent c.acknowledge.new.unit) c.bring.ensures.journal (g.met.M.Medium.coherent c.bring.new.unit) c.bring-2.ensures.journal c.bring-2.new.outcome.marks c.bring-2.new.outcome.breaks (round-of p c.args.said.at.second k.cabin j clock was.0 is.0) refl refl refl
          (sym (ap (λ (q : Keeper). held_in (session_at q.cabin.cards p.driver)) c.acknowledge.ensures.kept.keeper))
          (sym (ap (λ (q : Keeper). held_in (session_at q.cabin.cards p.codriver)) b.keeper ∙ ap (λ (q : Keeper). held_in (session_at (cabin_by was.0 p.driver c.args.said.at.second q.cabin).cards p.codriver)) c.acknowledge.ensures.kept.keeper));
      noted = round-whole p c.args.said.at failed (round-of p c.args.said.at.second k.cabin j clock was.0 is.0) k.cabin (g.M.Medium.state c.args.unit.now) U V W c.in_ok-acknowledge.ensures.goes.all.quiet
          (brought-notes p.driver (kept_in m Driver) c.args.said.at false c.acknowledge.new.self c.bring.new.self c.acknowledge.new.marks c.bring.new.outcome.marks c.args.outcome.now.breaks c.bring.new.outcome.breaks was.0 U V (state_at p.driver A0 B0) (state_at p.driver A1 B1) b
          (g.met.M.Medium.coherent c.acknowledge.new.unit) (g.met.M.Medium.coherent c.bring.new.unit) was.2 c.in_ok-bring.ensures.stands.cause k.cabin (ap (λ (q : Keeper). q.cabin) c.acknowledge.ensures.kept.keeper))
          (brought-notes p.codriver (kept_in m CoDriver) c.args.said.at failed c.bring.new.self c.bring-2.new.self c.bring.new.outcome.marks c.bring-2.new.outcome.marks c.bring.new.outcome.breaks c.bring-2.new.outcome.breaks is.0 V W (state_at p.codriver A1 B1) (state_at p.codriver A2 B2) d
          (g.met.M.Medium.coherent c.bring.new.unit) (g.met.M.Medium.coherent c.bring-2.new.unit) is.2 c.bring-2.ensures.stands.cause (cabin_by was.0 p.driver c.args.said.at.second k.cabin)
          (ap (λ (q : Keeper). q.cabin) b.keeper ∙ ap (λ (q : Keeper). cabin_by was.0 p.driver c.args.said.at.second q.cabin) c.acknowledge.ensures.kept.keeper));
      last = λ well. ap (λ (q : Keeper). q.journal.kept) is.1.keeper ∙ ap (λ (q : Keeper). q.journal.kept) was.1.keeper ∙ notes.0;
      clock = (c.in_ok-acknowledge.ensures.goes.all.clock, let first = c.bring.ensures.goes.keeping.all.later.unit.clock in let next = c.bring-2.ensures.goes.keeping.all.later.unit.clock in omega (arith, first, next));
      spared = λ none. absurd (cc);
      marks = omega (arith, few, more, here);
      stands = λ from leaving le h.
          let first = subst (λ (n : ℕ). CabinIsSound (n + 1) leaving c.bring.new.self.cabin) e
          (c.bring.ensures.cabin from leaving (omega (arith, le, e)) (subst (λ (q : Keeper). CabinIsSound from leaving q.cabin) (sym c.acknowledge.ensures.kept.keeper) h)) in
          subst (λ (n : ℕ). CabinIsSound (n + 1) leaving c.bring-2.new.self.cabin) f (c.bring-2.ensures.cabin (m.minute + 1) leaving (omega (arith, f)) first);
    }

pub returns-clause-stands : goal.returns-clause-stands
returns-clause-stands g c = record {
  unit = unit-stays c.bring-2.ensures.journal (unit-stays c.bring.ensures.journal c.acknowledge.ensures.stands.unit);
  card_a = c.bring-2.ensures.stands.card_a;
  card_b = c.bring-2.ensures.stands.card_b;
  minute = brought-minute _ _ _ _ _ _ _ _ _ _ _ _ _ _ _ c.bring-2.ensures.brought.1
      (brought-minute _ _ _ _ _ _ _ _ _ _ _ _ _ _ _ c.bring.ensures.brought.1 (subst (λ (q : Keeper). q.cabin.slots.minute ≤ c.args.said.at.second / 60) (sym c.acknowledge.ensures.kept.keeper) c.requires.may.early));
  cause = cause_after (cause_after c.in_ok-acknowledge.ensures.goes.all.cause c.in_ok-bring.ensures.stands.cause) c.bring-2.ensures.stands.cause;
  ready = c.bring-2.ensures.stands.ready;
  rows = λ well card h. c.bring-2.ensures.stands.rows well card (c.in_ok-bring.ensures.stands.rows refl card (c.in_ok-acknowledge.ensures.stands.rows refl card h));
}

pub returns-clause-goes : goal.returns-clause-goes
returns-clause-goes g c = record {
  keeping =
      let s = standing c.args.self.now c.args.outcome.now.marks c.args.outcome.now.breaks (g.M.Medium.state c.args.unit.now) (g.C.Chip.state c.args.card_a.now) (g.D.Chip.state c.args.card_b.now) (g.C.Chip.card c.args.card_a.now) (g.D.Chip.card c.args.card_b.now) in
      let t = standing c.acknowledge.new.self c.acknowledge.new.marks c.args.outcome.now.breaks (g.M.Medium.state c.acknowledge.new.unit) (g.C.Chip.state c.args.card_a.now) (g.D.Chip.state c.args.card_b.now) (g.C.Chip.card c.args.card_a.now) (g.D.Chip.card c.args.card_b.now) in
      let first : KeepingGoes s t = goes_of_unit c.args.self.now c.acknowledge.new.self c.args.outcome.now.marks c.acknowledge.new.marks c.args.outcome.now.breaks (g.C.Chip.state c.args.card_a.now) (g.D.Chip.state c.args.card_b.now) (g.C.Chip.card c.args.card_a.now) (g.D.Chip.card c.args.card_b.now)
      c.acknowledge.ensures.kept.keeper (ap (λ (l : Listed Mark). l.room) c.in_ok-acknowledge.ensures.kept.marked) c.acknowledge.ensures.goes.all in
      keeping_then first (keeping_then c.bring.ensures.goes.keeping c.bring-2.ensures.goes.keeping);
  most =
      let X = g.C.Chip.state c.args.card_a.now in
      let Y = g.D.Chip.state c.args.card_b.now in
      let U = g.M.Medium.state c.args.unit.now in
      let V = g.M.Medium.state c.acknowledge.new.unit in
      let mid = devices (g.M.Medium.state c.bring.new.unit) (g.C.Chip.state c.bring.new.card_a) (g.D.Chip.state c.bring.new.card_b) in
      let last = devices (g.M.Medium.state c.bring-2.new.unit) (g.C.Chip.state c.bring-2.new.card_a) (g.D.Chip.state c.bring-2.new.card_b) in
      wrote-more (18 + (4 + 4)) 26 (0 + (keep_most + keep_most)) minute_most (devices U X Y) last (omega arith) (omega arith)
      (wrote-then 18 (4 + 4) 0 (keep_most + keep_most) (devices U X Y) (devices V X Y) last (wrote-unit 18 0 U V X Y c.acknowledge.ensures.goes.most) (wrote-then 4 4 keep_most keep_most (devices V X Y) mid last c.bring.ensures.goes.most c.bring-2.ensures.goes.most));
  speeds =
      let V = g.M.Medium.state c.acknowledge.new.unit in
      let W = g.M.Medium.state c.bring.new.unit in
      let Z = g.M.Medium.state c.bring-2.new.unit in
      leaves-then (g.M.Medium.state c.args.unit.now) V Z c.acknowledge.ensures.goes.all.speeds (leaves-then V W Z c.bring.ensures.goes.speeds c.bring-2.ensures.goes.speeds);
}

-- ---- the detailed speed stays

-- ---- the cards that are not called

pub returns-in_err-acknowledge-clause-calls : goal.returns-in_err-acknowledge-clause-calls
returns-in_err-acknowledge-clause-calls g c = record {
  bare = bare-none c.args.self.now.cabin.cards c.args.card_a.now c.args.card_b.now;
  out = record { card_a = λ out. refl; card_b = λ out. refl };
}

pub returns-in_err-bring-clause-calls : goal.returns-in_err-bring-clause-calls
returns-in_err-bring-clause-calls g c = record {
  bare = record {
    card_a = λ none. c.bring.ensures.calls.bare.card_a (ap (λ (q : Keeper). q.cabin.cards.a.accepted) c.acknowledge.ensures.kept.keeper ∙ none);
    card_b = λ none. c.bring.ensures.calls.bare.card_b (ap (λ (q : Keeper). q.cabin.cards.b.accepted) c.acknowledge.ensures.kept.keeper ∙ none);
  };
  out = record { card_a = λ out. c.bring.ensures.calls.out.card_a out.0; card_b = λ out. c.bring.ensures.calls.out.card_b out.0 };
}

pub returns-clause-calls : goal.returns-clause-calls
returns-clause-calls g c =
    let k = c.args.self.now.cabin.cards in
    let x = c.acknowledge.new.self.cabin.cards in
    let y = c.bring.new.self.cabin.cards in
    let same : x ≡ k = ap (λ (q : Keeper). q.cabin.cards) c.acknowledge.ensures.kept.keeper in
    record {
      bare = record {
        card_a = λ none. let before = ap (λ (q : Cards). q.a.accepted) same ∙ none in c.bring-2.ensures.calls.bare.card_a (stays-none x.a.accepted y.a.accepted c.bring.ensures.goes.keeping.sessions.a before) ∙ c.bring.ensures.calls.bare.card_a before;
        card_b = λ none. let before = ap (λ (q : Cards). q.b.accepted) same ∙ none in c.bring-2.ensures.calls.bare.card_b (stays-none x.b.accepted y.b.accepted c.bring.ensures.goes.keeping.sessions.b before) ∙ c.bring.ensures.calls.bare.card_b before;
      };
      out = record { card_a = λ out. c.bring-2.ensures.calls.out.card_a out.1 ∙ c.bring.ensures.calls.out.card_a out.0; card_b = λ out. c.bring-2.ensures.calls.out.card_b out.1 ∙ c.bring.ensures.calls.out.card_b out.0 };
    }

-- ---- its writes

pub acknowledge-requires-clause-may : goal.acknowledge-requires-clause-may
acknowledge-requires-clause-may g c = record {
  low = c.requires.may.low;
  later = c.requires.may.later;
  small = c.requires.may.small;
  odometer = c.requires.may.odometer;
  room = first_of (search rules, grind (arith, common_steps));
  apart = first_of (search rules, grind (arith, common_steps));
}

-- ---- of the outcome nothing but its marks and breaks changes

pub returns-in_err-acknowledge-clause-only : goal.returns-in_err-acknowledge-clause-only
returns-in_err-acknowledge-clause-only g c = refl

pub returns-in_err-bring-clause-only : goal.returns-in_err-bring-clause-only
returns-in_err-bring-clause-only g c = c.in_err-bring.ensures.only

pub returns-clause-only : goal.returns-clause-only
returns-clause-only g c = c.bring-2.ensures.only ∙ ap (λ (o : Outcome). record o { marks = c.bring-2.new.outcome.marks; breaks = c.bring-2.new.outcome.breaks }) c.in_ok-bring.ensures.only
