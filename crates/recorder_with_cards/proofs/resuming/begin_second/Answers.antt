use Rattle.std.proofs.lemmas.Grind.{common_steps}
use Rattle.std.proofs.Common.{rules, ◌≡◌, ◌∙◌, ℕ, ◌+◌, ◌/◌, ◌%◌, ◌==◌, Bool, true, false, refl, ap, sym, subst, arith}
use Rattle.run_acts.specs.run_crew.Cabin.{KnowsEnded}
use Rattle.run_acts.specs.declared.run.Run.{Run}
use Rattle.run_acts.specs.declared.run.Power.{Power}
use Rattle.run_acts.specs.declared.run.Power.TheVariants.{Lit, Due, Lost}
use Rattle.run_acts.specs.Power.{is_lit, has_power, minute_over}
use Rattle.run_acts.specs.Going.{IsInsideSecond}
use Rattle.run_acts.specs.Room.{HasRoomWithin}
use Rattle.run_acts.proofs.Standing.{lit-is, begun-at, still-dark}
use Rattle.recorder_with_cards.proofs.AwakeRooms.{room-over, room-away, room-awake}
use Rattle.tach_media.specs.Medium.{State}
use Rattle.run_minutes.specs.run_promise.Between.{devices}
use Rattle.recorder_with_cards.proofs.GoingOn.{marks-due}
use Rattle.run_minutes.proofs.Later.{later-same}
use Rattle.run_outcome.proofs.Broken.{broke-none}
use Rattle.run_acts.specs.RunRinged.{InSecondRingedBy, InSecondRinged}
use Rattle.recorder_with_cards.proofs.BegunRinged.{lit-ringed}
use Rattle.device_calls.specs.safety_model.Safe.{Devices}
use Rattle.recorder_with_cards.proofs.RingsHeld.{ringed-lit}
use Rattle.recorder_with_cards.proofs.CardsHeld.{in-carded_lit}
use Rattle.recorder_with_cards.proofs.FreshStood.{begins-stood}
use Rattle.recorder_with_cards.proofs.Resumed.{wholes-of}
use Rattle.minute_rules.specs.minute_model.Span.{ungiven_of}
use Rattle.recorder_with_cards.proofs.SecondsCards.{over-lit, over-vehicle, begins-cards}
use Rattle.run_minutes.proofs.Calm.{calm-same}
use Rattle.run_minutes.proofs.Writes.{wrote-none}
use Rattle.recorder_with_cards.proofs.resuming.begin_second.Goals as goal

away-dark : (p : Power) (next : ℕ) → has_power p next ≡ false → is_lit p ≡ false
away-dark Lit next away = away
away-dark Due next away = refl
away-dark Lost next away = refl

-- ---- it stays away

pub returns-then-not-has_power-clause-behind : goal.returns-then-not-has_power-clause-behind
returns-then-not-has_power-clause-behind g c = record {
  is_unit = c.requires.going.held.is_unit;
  going =
      let away : has_power c.args.run.now.power c.args.run.now.next ≡ false = sym c.has_power.ensures ∙ c.if-not-has_power.true in
      still-dark c.args.run.now (away-dark c.args.run.now.power c.args.run.now.next away) c.requires.going;
  room =
      λ left offs insertions actions h.
      let away : has_power c.args.run.now.power c.args.run.now.next ≡ false = sym c.has_power.ensures ∙ c.if-not-has_power.true in
      room-away c.args.run.now c.args.outcome.now (1 + left) offs insertions actions away h;
}

-- ---- it goes on

pub returns-then-is_lit-clause-behind : goal.returns-then-is_lit-clause-behind
returns-then-is_lit-clause-behind g c = record {
  is_unit = c.requires.going.held.is_unit;
  going =
      let run = c.args.run.now in
      let lit : is_lit run.power ≡ true = sym c.is_lit.ensures ∙ c.if-is_lit.true in
      subst (λ (r : Run). IsInsideSecond r (g.M.Medium.state c.args.unit.now) (g.C.Chip.card c.args.card_a.now) (g.D.Chip.card c.args.card_b.now) (g.C.Chip.state c.args.card_a.now) (g.D.Chip.state c.args.card_b.now)) (sym c.end_minute.ensures.run)
      (begun-at run lit (λ from few h. subst (λ (r : Run). KnowsEnded from (run.next / 60) r.keeper.cabin.slots) c.end_minute.ensures.run (c.end_minute.ensures.ended from few h)) c.requires.going);
  room =
      λ left offs insertions actions h.
      let run = c.args.run.now in
      let lit : is_lit run.power ≡ true = sym c.is_lit.ensures ∙ c.if-is_lit.true in
      subst (λ (r : Run). HasRoomWithin r c.args.outcome.now (1 + left) offs insertions actions) (sym c.end_minute.ensures.run)
      (room-over (run.next % 60 == 0) run c.args.outcome.now (1 + left) offs insertions actions (lit-is run.power lit) h);
}

-- ---- power is back

pub returns-clause-behind : goal.returns-clause-behind
returns-clause-behind g c = record {
  is_unit = c.power_on.ensures.unit;
  going = c.in_ok-power_on.ensures.going;
  room =
      λ left offs insertions actions h.
      let run = c.args.run.now in
      let dark : is_lit run.power ≡ false = sym c.is_lit.ensures ∙ c.if-is_lit.false in
      let has : has_power run.power run.next ≡ true = sym c.has_power.ensures ∙ c.if-not-has_power.false in
      room-awake run c.power_on.new.run c.args.outcome.now c.power_on.new.outcome c.power_on.ensures.woken.next dark has c.in_ok-power_on.ensures.woken.awake c.power_on.ensures.takes c.power_on.ensures.woken.refused (1 + left) offs insertions actions h;
}

pub returns-in_err-power_on-clause-behind : goal.returns-in_err-power_on-clause-behind
returns-in_err-power_on-clause-behind g c = record {
  is_unit = c.power_on.ensures.unit;
  going = first_of (search rules, grind (arith, common_steps));
  room = first_of (search rules, grind (arith, common_steps));
}

-- ---- what has changed

pub returns-then-not-has_power-clause-lit : goal.returns-then-not-has_power-clause-lit
returns-then-not-has_power-clause-lit g c = λ lit.
    let away : has_power c.args.run.now.power c.args.run.now.next ≡ false = sym c.has_power.ensures ∙ c.if-not-has_power.true in
    absurd (let bad : false ≡ true = sym (away-dark c.args.run.now.power c.args.run.now.next away) ∙ lit in cc)

pub returns-then-is_lit-clause-lit : goal.returns-then-is_lit-clause-lit
returns-then-is_lit-clause-lit g c = λ lit. (refl, c.end_minute.ensures.run, refl, refl, refl, refl)

pub returns-clause-lit : goal.returns-clause-lit
returns-clause-lit g c = λ lit.
    let dark : is_lit c.args.run.now.power ≡ false = sym c.is_lit.ensures ∙ c.if-is_lit.false in
    absurd (let bad : false ≡ true = sym dark ∙ lit in cc)

pub returns-in_err-power_on-clause-lit : goal.returns-in_err-power_on-clause-lit
returns-in_err-power_on-clause-lit g c = λ lit.
    let dark : is_lit c.args.run.now.power ≡ false = sym c.is_lit.ensures ∙ c.if-is_lit.false in
    absurd (let bad : false ≡ true = sym dark ∙ lit in cc)

-- ---- where no tear of a failed call is told no card has broken down

pub returns-then-not-has_power-clause-begun : goal.returns-then-not-has_power-clause-begun
returns-then-not-has_power-clause-begun g c = record {
  late = tt;
  has = sym (sym c.has_power.ensures ∙ c.if-not-has_power.true);
  next = refl;
  unfound = c.requires.room.unfound;
  refused = refl;
}

pub returns-then-not-has_power-clause-promises : goal.returns-then-not-has_power-clause-promises
returns-then-not-has_power-clause-promises g c = record {
  ringed = λ o done s now rec time. rec;
  cards = λ o done s now rec time. rec;
  noted =
      λ dark has.
      let away : has_power c.args.run.now.power c.args.run.now.next ≡ false = sym c.has_power.ensures ∙ c.if-not-has_power.true in
      absurd (let bad : true ≡ false = sym has ∙ away in cc);
}

pub returns-then-not-has_power-clause-goes : goal.returns-then-not-has_power-clause-goes
returns-then-not-has_power-clause-goes g c = record {
  later = later-same (devices (g.M.Medium.state c.args.unit.now) (g.C.Chip.state c.args.card_a.now) (g.D.Chip.state c.args.card_b.now));
  calm = calm-same (devices (g.M.Medium.state c.args.unit.now) (g.C.Chip.state c.args.card_a.now) (g.D.Chip.state c.args.card_b.now));
  broke = broke-none c.args.outcome.now.breaks.items {old = (g.M.Medium.state c.args.unit.now)} {new = (g.M.Medium.state c.args.unit.now)} (omega arith);
  most = wrote-none 94 2152 (devices (g.M.Medium.state c.args.unit.now) (g.C.Chip.state c.args.card_a.now) (g.D.Chip.state c.args.card_b.now));
}

pub returns-then-is_lit-clause-begun : goal.returns-then-is_lit-clause-begun
returns-then-is_lit-clause-begun g c = record {
  late = tt;
  has = sym (sym c.has_power.ensures ∙ c.if-not-has_power.false);
  next = first_of (search rules, grind (arith, common_steps));
  unfound = first_of (search rules, grind (arith, common_steps));
  refused = refl;
}

pub returns-then-is_lit-clause-promises : goal.returns-then-is_lit-clause-promises
returns-then-is_lit-clause-promises g c = record {
  ringed =
      λ o done s now rec time.
      let run = c.args.run.now in
      let out = c.args.outcome.now in
      let U : State = g.M.Medium.state c.args.unit.now in
      let X : State = g.C.Chip.state c.args.card_a.now in
      let Y : State = g.D.Chip.state c.args.card_b.now in
      let yes : is_lit run.power ≡ true = sym c.is_lit.ensures ∙ c.if-is_lit.true in
      let lit : run.power ≡ Lit = lit-is run.power yes in
      let on = lit-ringed o done s run out (devices U X Y) U (g.C.Chip.card c.args.card_a.now) (g.D.Chip.card c.args.card_b.now) X Y lit now.number now.given c.requires.going.low (c.requires.going.lit yes) rec in
      subst (λ (r : Run). InSecondRinged o done s 0 r out (devices U X Y)) (sym c.end_minute.ensures.run)
      (subst (λ (b : Bool). InSecondRingedBy b o done s 0 (minute_over run) out (devices U X Y)) (sym (ap is_lit on.evented.within.lit)) on);
  cards =
      λ o done s now rec time.
      let run = c.args.run.now in
      let out = c.args.outcome.now in
      let d : Devices = devices (g.M.Medium.state c.args.unit.now) (g.C.Chip.state c.args.card_a.now) (g.D.Chip.state c.args.card_b.now) in
      let yes : is_lit run.power ≡ true = sym c.is_lit.ensures ∙ c.if-is_lit.true in
      let lit : run.power ≡ Lit = lit-is run.power yes in
      let new : Run = c.end_minute.new.self in
      let still : is_lit new.power ≡ true = ap (λ (r : Run). is_lit r.power) c.end_minute.ensures.run ∙ over-lit (run.next % 60 == 0) run ∙ yes in
      let on = lit-ringed o done s run out d (g.M.Medium.state c.args.unit.now) (g.C.Chip.card c.args.card_a.now) (g.D.Chip.card c.args.card_b.now) (g.C.Chip.state c.args.card_a.now) (g.D.Chip.state c.args.card_b.now) lit now.number now.given c.requires.going.low (c.requires.going.lit yes) rec.ringed in
      let w = ringed-lit o done s new out d 0 still (subst (λ (r : Run). InSecondRinged o done s 0 r out d) (sym c.end_minute.ensures.run)
      (subst (λ (b : Bool). InSecondRingedBy b o done s 0 (minute_over run) out d) (sym (ap is_lit on.evented.within.lit)) on)) in
      in-carded_lit o done s new out d 0 (record {
        ringed = w;
        vehicle = ap (λ (r : Run). r.keeper.memory.registration) c.end_minute.ensures.run ∙ over-vehicle (run.next % 60 == 0) run ∙ rec.vehicle;
        cards = begins-cards o done run out d rec lit s now.number now.given;
        past = begins-stood o done run out d rec.ringed (λ is. let going = c.requires.going.lit yes in (ungiven_of going.span, going.cabin)) (wholes-of (g.M.Medium.state c.args.unit.now) (g.C.Chip.state c.args.card_a.now) (g.D.Chip.state c.args.card_b.now) (g.met.C.Chip.coherent c.args.card_a.now) (g.met.D.Chip.coherent c.args.card_b.now)) rec.past;
      });
  noted =
      λ dark has.
      let yes : is_lit c.args.run.now.power ≡ true = sym c.is_lit.ensures ∙ c.if-is_lit.true in
      absurd (let bad : true ≡ false = sym yes ∙ dark in cc);
}

pub returns-then-is_lit-clause-goes : goal.returns-then-is_lit-clause-goes
returns-then-is_lit-clause-goes g c = record {
  later = later-same (devices (g.M.Medium.state c.args.unit.now) (g.C.Chip.state c.args.card_a.now) (g.D.Chip.state c.args.card_b.now));
  calm = calm-same (devices (g.M.Medium.state c.args.unit.now) (g.C.Chip.state c.args.card_a.now) (g.D.Chip.state c.args.card_b.now));
  broke = broke-none c.args.outcome.now.breaks.items {old = (g.M.Medium.state c.args.unit.now)} {new = (g.M.Medium.state c.args.unit.now)} (omega arith);
  most = wrote-none 94 2152 (devices (g.M.Medium.state c.args.unit.now) (g.C.Chip.state c.args.card_a.now) (g.D.Chip.state c.args.card_b.now));
}

pub returns-in_err-power_on-clause-begun : goal.returns-in_err-power_on-clause-begun
returns-in_err-power_on-clause-begun g c = record {
  late = first_of (search rules, grind (arith, common_steps));
  has = first_of (search rules, grind (arith, common_steps));
  next = first_of (search rules, grind (arith, common_steps));
  unfound = first_of (search rules, grind (arith, common_steps));
  refused = c.power_on.ensures.woken.refused;
}

pub returns-in_err-power_on-clause-promises : goal.returns-in_err-power_on-clause-promises
returns-in_err-power_on-clause-promises g c = record {
  ringed =
      λ o done s now rec time.
      let run = c.args.run.now in
      let dark : is_lit run.power ≡ false = sym c.is_lit.ensures ∙ c.if-is_lit.false in
      let has : has_power run.power run.next ≡ true = sym c.has_power.ensures ∙ c.if-not-has_power.false in
      absurd ((c.in_err-power_on.ensures.promises (marks-due run c.args.outcome.now dark has c.requires.room.room)).ringed o done s now rec has time);
  cards =
      λ o done s now rec time.
      let run = c.args.run.now in
      let dark : is_lit run.power ≡ false = sym c.is_lit.ensures ∙ c.if-is_lit.false in
      let has : has_power run.power run.next ≡ true = sym c.has_power.ensures ∙ c.if-not-has_power.false in
      absurd ((c.in_err-power_on.ensures.promises (marks-due run c.args.outcome.now dark has c.requires.room.room)).cards o done s now rec has time);
  noted = first_of (search rules, grind (arith, common_steps));
}

pub returns-in_err-power_on-clause-goes : goal.returns-in_err-power_on-clause-goes
returns-in_err-power_on-clause-goes g c = record {
  later = c.power_on.ensures.goes.later;
  calm = c.power_on.ensures.goes.calm;
  broke = c.power_on.ensures.goes.broke;
  most = c.power_on.ensures.goes.most;
}

pub returns-clause-begun : goal.returns-clause-begun
returns-clause-begun g c = record {
  late = tt;
  has = sym (sym c.has_power.ensures ∙ c.if-not-has_power.false);
  next = c.power_on.ensures.woken.next;
  unfound = c.in_ok-power_on.ensures.woken.unfound;
  refused = c.power_on.ensures.woken.refused;
}

pub returns-clause-promises : goal.returns-clause-promises
returns-clause-promises g c = record {
  ringed =
      λ o done s now rec time.
      let run = c.args.run.now in
      let dark : is_lit run.power ≡ false = sym c.is_lit.ensures ∙ c.if-is_lit.false in
      let has : has_power run.power run.next ≡ true = sym c.has_power.ensures ∙ c.if-not-has_power.false in
      (c.in_ok-power_on.ensures.promises (marks-due run c.args.outcome.now dark has c.requires.room.room)).ringed o done s now rec has time;
  cards =
      λ o done s now rec time.
      let run = c.args.run.now in
      let dark : is_lit run.power ≡ false = sym c.is_lit.ensures ∙ c.if-is_lit.false in
      let has : has_power run.power run.next ≡ true = sym c.has_power.ensures ∙ c.if-not-has_power.false in
      (c.in_ok-power_on.ensures.promises (marks-due run c.args.outcome.now dark has c.requires.room.room)).cards o done s now rec has time;
  noted = λ dark has. c.in_ok-power_on.ensures.noted;
}

pub returns-clause-goes : goal.returns-clause-goes
returns-clause-goes g c = record {
  later = c.power_on.ensures.goes.later;
  calm = c.power_on.ensures.goes.calm;
  broke = c.power_on.ensures.goes.broke;
  most = c.power_on.ensures.goes.most;
}

pub power_on-requires-clause-may : goal.power_on-requires-clause-may
power_on-requires-clause-may g c = record {
  dark = first_of (search rules, grind (arith, common_steps));
  breaks = first_of (search rules, grind (arith, common_steps));
  finds = first_of (search rules, grind (arith, common_steps));
}
