use Rattle.std.proofs.Common.{◌≡◌, ◌∙◌, ℕ, ◌+◌, ◌-◌, ◌<◌, Bool, true, false, List, [], ◌∷◌, ◌++◌, length, refl, ap, sym, subst, arith, append-nil, length-append}
use Rattle.trace_model.specs.Trace.{TraceSecond, driven}
use Rattle.log_model.specs.Log.{In}
use Rattle.run_minutes.specs.run_promise.Between.{devices}
use Rattle.run_outcome.specs.declared.outcome.Outcome.{Outcome}
use Rattle.run_acts.specs.declared.run.Run.{Run}
use Rattle.run_acts.specs.Power.{is_lit, passed}
use Rattle.run_acts.specs.Going.{IsBetweenSeconds}
use Rattle.run_acts.specs.Room.{HasRoom}
use Rattle.run_acts.proofs.Standing.{passed-at}
use Rattle.run_acts.specs.Turning.{IsTurnOf}
use Rattle.run_acts.specs.Recording.{InSecondBy, RunWithin, RunCut, RunRecorded, log_of, Supplies}
use Rattle.run_acts.proofs.TurnRecorded.{turn-lit, turn-dark}
use Rattle.run_acts.proofs.Room.{room-dark}
use Rattle.run_minutes.proofs.Later.{after-same}
use Rattle.run_outcome.proofs.Broken.{broke-none}
use Rattle.device_calls.specs.run_unit_course.Followed.{Lost as IsLost}
use Rattle.run_note_record.specs.Noting.{Acting}
use Rattle.run_acts.specs.declared.run.Power.{Power}
use Rattle.run_acts.specs.declared.run.Power.TheVariants.{Lit, Lost}
use Rattle.run_acts.specs.Evented.{CutEvented, WithinEvented, InSecondEventedBy, RunEvented, EventsTurn}
use Rattle.run_acts.proofs.TurnMany.{at-supply, dark-events}
use Rattle.trace_model.specs.declared.Action.{Action}
use Rattle.device_calls.specs.safety_model.Safe.{Devices}
use Rattle.run_minutes.specs.run_promise.Origin.{Origin}
use Rattle.run_acts.specs.RunRinged.{RunRinged, RingsWithin, WithinRinged, CutRinged, InSecondRingedBy, TurnedRings}
use Rattle.run_acts.proofs.Comings.{leaves-more}
use Rattle.run_acts.proofs.Ringing.{turn-leaves}
use Rattle.run_acts.proofs.RingedTurn.{dark-ringed, seconds-ringed}
use Rattle.run_acts.specs.RunCards.{CardsAtBy}
use Rattle.run_acts.specs.Speeds.{SpeedsBehind, SpeedsInBy}
use Rattle.run_acts.proofs.SpeedsTurn.{dark-speeds, seconds-speeds}
use Rattle.run_acts.proofs.CardTurn.{dark-cards, seconds-shown}
use Rattle.run_acts.proofs.TurnStood.{seconds-stand}
use Rattle.run_acts.proofs.Stood.{stand-itself, tells-self}
use Rattle.run_minutes.proofs.Calm.{calm-same}
use Rattle.run_minutes.proofs.Writes.{wrote-none}
use Rattle.run_acts.proofs.turning.turn.Goals as goal

-- ---- without power

pub returns-then-not-is_lit-clause-behind : goal.returns-then-not-is_lit-clause-behind
returns-then-not-is_lit-clause-behind g c = record {
  going =
      let dark : is_lit c.args.run.now.power ≡ false = sym c.is_lit.ensures ∙ c.if-not-is_lit.true in
      subst (λ (r : Run). IsBetweenSeconds r (g.M.Medium.state c.args.unit.now) (g.C.Chip.card c.args.card_a.now) (g.D.Chip.card c.args.card_b.now) (g.C.Chip.state c.args.card_a.now) (g.D.Chip.state c.args.card_b.now)) (sym c.pass.ensures)
      (passed-at c.args.run.now c.args.stretch.seconds c.args.stretch.begun dark c.requires.stretch.small c.requires.stretch.some c.requires.going);
  room =
      λ left offs insertions actions h.
      let dark : is_lit c.args.run.now.power ≡ false = sym c.is_lit.ensures ∙ c.if-not-is_lit.true in
      subst (λ (r : Run). HasRoom r c.args.outcome.now left offs insertions actions) (sym c.pass.ensures)
      (room-dark c.args.run.now (passed c.args.stretch.seconds c.args.stretch.begun c.args.run.now) c.args.outcome.now c.args.outcome.now c.args.stretch.seconds 0 refl c.requires.stretch.some c.requires.stretch.minute dark refl refl left offs insertions actions h);
}

-- ---- with power

pub returns-clause-behind : goal.returns-clause-behind
returns-clause-behind g c = record {
  going =
      subst (λ (r : Run). IsBetweenSeconds r (g.M.Medium.state c.lit_turn.new.unit) (g.C.Chip.card c.lit_turn.new.card_a) (g.D.Chip.card c.lit_turn.new.card_b) (g.C.Chip.state c.lit_turn.new.card_a) (g.D.Chip.state c.lit_turn.new.card_b)) (sym c.pass-2.ensures) c.lit_turn.ensures.behind.going;
  room =
      λ left offs insertions actions h.
      subst (λ (r : Run). HasRoom r c.lit_turn.new.outcome left offs insertions actions) (sym c.pass-2.ensures) (c.lit_turn.ensures.behind.room left offs insertions actions h);
}

pub returns-clause-dark : goal.returns-clause-dark
returns-clause-dark g c = λ dark. let lit : is_lit c.args.run.now.power ≡ true = sym c.is_lit.ensures ∙ c.if-not-is_lit.false in absurd (cc)

-- ---- the rings

-- behind them, with what is recorded and the events
ringed-of : (o : Origin) (done : List TraceSecond) (run : Run) (out : Outcome) (d : Devices) → RunEvented o done run out d → TurnedRings o done run out d → RunRinged o done run out d
ringed-of o done run out d events rings = record { evented = events; spans = rings.spans; base = rings.base; counted = rings.counted; ringed = rings.ringed; stored = rings.stored }

-- all actions have begun
whole-front : (front rest acts : List Action) → acts ≡ front ++ rest → length front ≡ length acts → front ≡ acts
whole-front front [] acts are same = sym (are ∙ append-nil front)
whole-front front (a ∷ rest) acts are same = absurd (let all = ap (λ (l : List Action). length l) are ∙ length-append front (a ∷ rest) in omega (arith, all, same))

-- ---- where no tear of a failed call is told no card has broken down

pub returns-then-not-is_lit-clause-turned : goal.returns-then-not-is_lit-clause-turned
returns-then-not-is_lit-clause-turned g c = record {
  seconds =
      let dark : is_lit c.args.run.now.power ≡ false = sym c.is_lit.ensures ∙ c.if-not-is_lit.true in
      subst (λ (b : Bool). IsTurnOf b c.args.stretch.seconds c.args.stretch.speed c.args.stretch.begun c.args.run.now c.pass.new.self c.args.outcome.now c.args.outcome.now) (sym dark) (c.pass.ensures, refl);
  next = ap (λ (r : Run). r.next) c.pass.ensures;
  unfound = ap (λ (r : Run). r.unfound) c.pass.ensures;
  refused = refl;
  finds = refl;
}

pub returns-then-not-is_lit-clause-leaves : goal.returns-then-not-is_lit-clause-leaves
returns-then-not-is_lit-clause-leaves g c = record {
  booked = λ lit. let dark : is_lit c.args.run.now.power ≡ false = sym c.is_lit.ensures ∙ c.if-not-is_lit.true in absurd (cc);
  noted = λ lit. let dark : is_lit c.args.run.now.power ≡ false = sym c.is_lit.ensures ∙ c.if-not-is_lit.true in absurd (cc);
}

pub returns-then-not-is_lit-clause-promises : goal.returns-then-not-is_lit-clause-promises
returns-then-not-is_lit-clause-promises g c =
    let evented : EventsTurn c.args.stretch.seconds c.args.stretch.speed c.args.stretch.begun c.args.run.now c.pass.new.self c.args.outcome.now c.args.outcome.now (devices (g.M.Medium.state c.args.unit.now) (g.C.Chip.state c.args.card_a.now) (g.D.Chip.state c.args.card_b.now)) (devices (g.M.Medium.state c.args.unit.now) (g.C.Chip.state c.args.card_a.now) (g.D.Chip.state c.args.card_b.now)) =
    λ o done s now actions behind within time.
    let run = c.args.run.now in
    let before = c.args.outcome.now in
    let d = devices (g.M.Medium.state c.args.unit.now) (g.C.Chip.state c.args.card_a.now) (g.D.Chip.state c.args.card_b.now) in
    let dark : is_lit run.power ≡ false = sym c.is_lit.ensures ∙ c.if-not-is_lit.true in
    let r : CutEvented o done s run before d = subst (λ (b : Bool). InSecondEventedBy b o done s c.args.stretch.begun run before d) dark within in
    let seconds = done ++ s ∷ driven (c.args.stretch.seconds - 1) (s.number + 1) c.args.stretch.speed [] in
    let rec : RunRecorded o seconds (passed c.args.stretch.seconds c.args.stretch.begun run) before d = turn-dark c.args.stretch.seconds c.args.stretch.speed c.args.stretch.begun run before d c.requires.stretch.some c.requires.stretch.minute o done s now actions (λ more. (behind (omega (arith, more))).0) r.cut in
    subst (λ (x : Run). RunEvented o seconds x before d) (sym c.pass.ensures)
    (record {
      recorded = rec;
      evented = at-supply o seconds (log_of before) run.unfound (run.next + c.args.stretch.seconds) run.power IsLost rec.supply d (subst (λ (p : Power). Supplies p IsLost) (sym r.cut.lost) tt) rec.powers
          (dark-events d c.args.stretch.seconds c.args.stretch.speed c.args.stretch.begun run before c.requires.stretch.some c.requires.stretch.minute o done s now actions (λ more. (behind more).0) r);
      limit = r.limit;
      watched = λ on. absurd (let bad : Lost ≡ Lit = sym r.cut.lost ∙ on in cc);
    }) in
    record {
      recorded =
          λ o done s now actions none within time.
          let run = c.args.run.now in
          let before = c.args.outcome.now in
          let d = devices (g.M.Medium.state c.args.unit.now) (g.C.Chip.state c.args.card_a.now) (g.D.Chip.state c.args.card_b.now) in
          let dark : is_lit run.power ≡ false = sym c.is_lit.ensures ∙ c.if-not-is_lit.true in
          let r : RunCut o done s run before d = subst (λ (b : Bool). InSecondBy b o done s c.args.stretch.begun run before d) dark within in
          subst (λ (x : Run). RunRecorded o (done ++ s ∷ driven (c.args.stretch.seconds - 1) (s.number + 1) c.args.stretch.speed []) x before d) (sym c.pass.ensures)
          (turn-dark c.args.stretch.seconds c.args.stretch.speed c.args.stretch.begun run before d c.requires.stretch.some c.requires.stretch.minute o done s now actions (λ more. none (omega (arith, more))) r);
      evented = evented;
      ringed =
          λ o done s now actions behind within time.
          let run = c.args.run.now in
          let before = c.args.outcome.now in
          let d : Devices = devices (g.M.Medium.state c.args.unit.now) (g.C.Chip.state c.args.card_a.now) (g.D.Chip.state c.args.card_b.now) in
          let dark : is_lit run.power ≡ false = sym c.is_lit.ensures ∙ c.if-not-is_lit.true in
          let r : CutRinged o done s run before d = subst (λ (b : Bool). InSecondRingedBy b o done s c.args.stretch.begun run before d) dark within in
          let seconds : List TraceSecond = done ++ s ∷ driven (c.args.stretch.seconds - 1) (s.number + 1) c.args.stretch.speed [] in
          let events : RunEvented o seconds c.pass.new.self before d = evented o done s now actions behind (subst (λ (b : Bool). InSecondEventedBy b o done s c.args.stretch.begun run before d) (sym dark) r.evented) time in
          let rings : TurnedRings o seconds c.pass.new.self before d = subst (λ (x : Run). TurnedRings o seconds x before d) (sym c.pass.ensures)
          (dark-ringed c.args.stretch.seconds c.args.stretch.speed c.args.stretch.begun run before d c.requires.stretch.some c.requires.stretch.minute o done s now r.evented.cut r.spans r.counted r.ringed r.stored) in
          ringed-of o seconds c.pass.new.self before d events rings;
      cards =
          λ o done s now actions none there time.
          let run = c.args.run.now in
          let before = c.args.outcome.now in
          let d : Devices = devices (g.M.Medium.state c.args.unit.now) (g.C.Chip.state c.args.card_a.now) (g.D.Chip.state c.args.card_b.now) in
          let dark : is_lit run.power ≡ false = sym c.is_lit.ensures ∙ c.if-not-is_lit.true in
          let r : CardsAtBy false o done s c.args.stretch.begun run before d = subst (λ (b : Bool). CardsAtBy b o done s c.args.stretch.begun run before d) dark there in
          dark-cards c.args.stretch.seconds c.args.stretch.speed run before d c.requires.stretch.some c.requires.stretch.minute o done s now r.0 r.1;
      speeds =
          λ o done s now actions none there time.
          let run = c.args.run.now in
          let before = c.args.outcome.now in
          let d : Devices = devices (g.M.Medium.state c.args.unit.now) (g.C.Chip.state c.args.card_a.now) (g.D.Chip.state c.args.card_b.now) in
          let dark : is_lit run.power ≡ false = sym c.is_lit.ensures ∙ c.if-not-is_lit.true in
          let r : SpeedsInBy false o done s c.args.stretch.begun run before d = subst (λ (b : Bool). SpeedsInBy b o done s c.args.stretch.begun run before d) dark there in
          subst (λ (x : Run). SpeedsBehind o (done ++ s ∷ driven (c.args.stretch.seconds - 1) (s.number + 1) c.args.stretch.speed []) x before d) (sym c.pass.ensures)
          (dark-speeds c.args.stretch.seconds c.args.stretch.speed c.args.stretch.begun run before d c.requires.stretch.some c.requires.stretch.minute o done s now r.0 r.1);
      stands =
          λ o done s now actions none within time.
          let d : Devices = devices (g.M.Medium.state c.args.unit.now) (g.C.Chip.state c.args.card_a.now) (g.D.Chip.state c.args.card_b.now) in
          (stand-itself o d, tells-self (log_of c.args.outcome.now) done);
    }

pub returns-then-not-is_lit-clause-goes : goal.returns-then-not-is_lit-clause-goes
returns-then-not-is_lit-clause-goes g c = record {
  later = after-same (devices (g.M.Medium.state c.args.unit.now) (g.C.Chip.state c.args.card_a.now) (g.D.Chip.state c.args.card_b.now));
  calm = calm-same (devices (g.M.Medium.state c.args.unit.now) (g.C.Chip.state c.args.card_a.now) (g.D.Chip.state c.args.card_b.now));
  more = omega arith;
  broke = broke-none c.args.outcome.now.breaks.items {old = (g.M.Medium.state c.args.unit.now)} {new = (g.M.Medium.state c.args.unit.now)} (omega arith);
  most = wrote-none 93 294 (devices (g.M.Medium.state c.args.unit.now) (g.C.Chip.state c.args.card_a.now) (g.D.Chip.state c.args.card_b.now));
}

pub returns-clause-turned : goal.returns-clause-turned
returns-clause-turned g c = record {
  seconds =
      let lit : is_lit c.args.run.now.power ≡ true = sym c.is_lit.ensures ∙ c.if-not-is_lit.false in
      subst (λ (b : Bool). IsTurnOf b c.args.stretch.seconds c.args.stretch.speed c.args.stretch.begun c.args.run.now c.pass-2.new.self c.args.outcome.now c.lit_turn.new.outcome) (sym lit) (c.lit_turn.new.run, c.lit_turn.ensures.turned.seconds, c.pass-2.ensures);
  next = ap (λ (r : Run). r.next) c.pass-2.ensures ∙ ap (λ (m : ℕ). m + c.args.stretch.seconds) c.lit_turn.ensures.turned.next;
  unfound = ap (λ (r : Run). r.unfound) c.pass-2.ensures ∙ c.lit_turn.ensures.turned.unfound;
  refused = c.lit_turn.ensures.turned.refused;
  finds = c.lit_turn.ensures.turned.finds;
}

pub returns-clause-leaves : goal.returns-clause-leaves
returns-clause-leaves g c = record {
  booked = λ lit. (c.lit_turn.new.run, c.lit_turn.ensures.leaves.booked, c.pass-2.ensures);
  noted = λ lit. (c.lit_turn.new.run, c.lit_turn.ensures.leaves.noted, c.pass-2.ensures);
}

pub returns-clause-promises : goal.returns-clause-promises
returns-clause-promises g c =
    let evented : EventsTurn c.args.stretch.seconds c.args.stretch.speed c.args.stretch.begun c.args.run.now c.pass-2.new.self c.args.outcome.now c.lit_turn.new.outcome (devices (g.M.Medium.state c.args.unit.now) (g.C.Chip.state c.args.card_a.now) (g.D.Chip.state c.args.card_b.now)) (devices (g.M.Medium.state c.lit_turn.new.unit) (g.C.Chip.state c.lit_turn.new.card_a) (g.D.Chip.state c.lit_turn.new.card_b)) =
    λ o done s now actions behind within time.
    let run = c.args.run.now in
    let before = c.args.outcome.now in
    let d = devices (g.M.Medium.state c.args.unit.now) (g.C.Chip.state c.args.card_a.now) (g.D.Chip.state c.args.card_b.now) in
    let e = devices (g.M.Medium.state c.lit_turn.new.unit) (g.C.Chip.state c.lit_turn.new.card_a) (g.D.Chip.state c.lit_turn.new.card_b) in
    let lit : is_lit run.power ≡ true = sym c.is_lit.ensures ∙ c.if-not-is_lit.false in
    let r : WithinEvented o done s (In c.args.stretch.begun) [] [] Acting run before d = subst (λ (b : Bool). InSecondEventedBy b o done s c.args.stretch.begun run before d) lit within in
    let there : RunWithin o done s (In (length s.actions)) [] [] run before d = subst (λ (k : ℕ). RunWithin o done s (In k) [] [] run before d) (sym actions) r.within in
    let seconds = done ++ s ∷ driven (c.args.stretch.seconds - 1) (s.number + 1) c.args.stretch.speed [] in
    let after = c.lit_turn.new.outcome in
    let turned : Run = passed c.args.stretch.seconds c.args.stretch.begun c.lit_turn.new.run in
    let rec : RunRecorded o seconds turned after e = turn-lit c.args.stretch.seconds c.args.stretch.speed c.args.stretch.begun run c.lit_turn.new.run before after d e (c.requires.going.lit lit) r.within.lit c.requires.stretch.some c.requires.stretch.minute c.requires.stretch.small c.lit_turn.ensures.leaves.booked
    o done s now actions (λ more. (behind (omega (arith, more))).0) there time
    (leaves-more (g.M.Medium.state c.args.unit.now) (g.M.Medium.state c.lit_turn.new.unit) (turn-leaves c.args.stretch.seconds c.args.stretch.speed c.args.stretch.begun run c.lit_turn.new.run before c.lit_turn.new.outcome (g.M.Medium.state c.args.unit.now) (g.M.Medium.state c.lit_turn.new.unit) (g.met.M.Medium.coherent c.args.unit.now) c.requires.going.held.is_unit c.lit_turn.ensures.leaves.noted)) in
    let t = c.lit_turn.ensures.leaves.evented o done s now actions behind r time in
    subst (λ (x : Run). RunEvented o seconds x after e) (sym c.pass-2.ensures)
    (record {
      recorded = rec;
      evented = at-supply o seconds (log_of after) turned.unfound turned.next turned.power t.supply rec.supply e t.powers rec.powers t.evented;
      limit = t.limit;
      watched = t.watched;
    }) in
    record {
      recorded =
          λ o done s now actions none within time.
          let run = c.args.run.now in
          let before = c.args.outcome.now in
          let d = devices (g.M.Medium.state c.args.unit.now) (g.C.Chip.state c.args.card_a.now) (g.D.Chip.state c.args.card_b.now) in
          let e = devices (g.M.Medium.state c.lit_turn.new.unit) (g.C.Chip.state c.lit_turn.new.card_a) (g.D.Chip.state c.lit_turn.new.card_b) in
          let lit : is_lit run.power ≡ true = sym c.is_lit.ensures ∙ c.if-not-is_lit.false in
          let r : RunWithin o done s (In c.args.stretch.begun) [] [] run before d = subst (λ (b : Bool). InSecondBy b o done s c.args.stretch.begun run before d) lit within in
          let there : RunWithin o done s (In (length s.actions)) [] [] run before d = subst (λ (k : ℕ). RunWithin o done s (In k) [] [] run before d) (sym actions) r in
          subst (λ (x : Run). RunRecorded o (done ++ s ∷ driven (c.args.stretch.seconds - 1) (s.number + 1) c.args.stretch.speed []) x c.lit_turn.new.outcome e) (sym c.pass-2.ensures)
          (turn-lit c.args.stretch.seconds c.args.stretch.speed c.args.stretch.begun run c.lit_turn.new.run before c.lit_turn.new.outcome d e (c.requires.going.lit lit) r.lit c.requires.stretch.some c.requires.stretch.minute c.requires.stretch.small c.lit_turn.ensures.leaves.booked
          o done s now actions (λ more. none (omega (arith, more))) there time
          (leaves-more (g.M.Medium.state c.args.unit.now) (g.M.Medium.state c.lit_turn.new.unit) (turn-leaves c.args.stretch.seconds c.args.stretch.speed c.args.stretch.begun run c.lit_turn.new.run before c.lit_turn.new.outcome (g.M.Medium.state c.args.unit.now) (g.M.Medium.state c.lit_turn.new.unit) (g.met.M.Medium.coherent c.args.unit.now) c.requires.going.held.is_unit c.lit_turn.ensures.leaves.noted)));
      evented = evented;
      ringed =
          λ o done s now actions behind within time.
          let run = c.args.run.now in
          let before = c.args.outcome.now in
          let after = c.lit_turn.new.outcome in
          let U = g.M.Medium.state c.args.unit.now in
          let V = g.M.Medium.state c.lit_turn.new.unit in
          let d : Devices = devices U (g.C.Chip.state c.args.card_a.now) (g.D.Chip.state c.args.card_b.now) in
          let e : Devices = devices V (g.C.Chip.state c.lit_turn.new.card_a) (g.D.Chip.state c.lit_turn.new.card_b) in
          let lit : is_lit run.power ≡ true = sym c.is_lit.ensures ∙ c.if-not-is_lit.false in
          let there : WithinRinged o done s c.args.stretch.begun run before d = subst (λ (b : Bool). InSecondRingedBy b o done s c.args.stretch.begun run before d) lit within in
          let r : WithinRinged o done s (length s.actions) run before d = subst (λ (k : ℕ). WithinRinged o done s k run before d) (sym actions) there in
          let seconds : List TraceSecond = done ++ s ∷ driven (c.args.stretch.seconds - 1) (s.number + 1) c.args.stretch.speed [] in
          let events : RunEvented o seconds c.pass-2.new.self after e = evented o done s now actions behind (subst (λ (b : Bool). InSecondEventedBy b o done s c.args.stretch.begun run before d) (sym lit) there.evented) time in
          let leaves = turn-leaves c.args.stretch.seconds c.args.stretch.speed c.args.stretch.begun run c.lit_turn.new.run before after U V (g.met.M.Medium.coherent c.args.unit.now) c.requires.going.held.is_unit c.lit_turn.ensures.leaves.noted in
          let within_all : RingsWithin o done s r.evented.within.within.b.run.log s.actions run (log_of before) r.spans r.told d =
          subst (λ (acts : List Action). RingsWithin o done s r.evented.within.within.b.run.log acts run (log_of before) r.spans r.told d) (whole-front r.front r.rest s.actions r.are r.number) r.rings in
          let rings : TurnedRings o seconds c.pass-2.new.self after e = subst (λ (x : Run). TurnedRings o seconds x after e) (sym c.pass-2.ensures)
          (seconds-ringed c.args.stretch.seconds c.args.stretch.speed c.args.stretch.begun run c.lit_turn.new.run before after d e (c.requires.going.lit lit) r.evented.within.lit c.requires.stretch.some c.requires.stretch.minute c.requires.stretch.small c.lit_turn.ensures.leaves.booked leaves
          o done s now actions (λ more. (behind (omega (arith, more))).0) r.evented.within time r.spans r.told within_all r.stored) in
          ringed-of o seconds c.pass-2.new.self after e events rings;
      cards =
          λ o done s now actions none there time.
          let run = c.args.run.now in
          let before = c.args.outcome.now in
          let after = c.lit_turn.new.outcome in
          let d : Devices = devices (g.M.Medium.state c.args.unit.now) (g.C.Chip.state c.args.card_a.now) (g.D.Chip.state c.args.card_b.now) in
          let e : Devices = devices (g.M.Medium.state c.lit_turn.new.unit) (g.C.Chip.state c.lit_turn.new.card_a) (g.D.Chip.state c.lit_turn.new.card_b) in
          let lit : is_lit run.power ≡ true = sym c.is_lit.ensures ∙ c.if-not-is_lit.false in
          let at : CardsAtBy true o done s c.args.stretch.begun run before d = subst (λ (b : Bool). CardsAtBy b o done s c.args.stretch.begun run before d) lit there in
          let r : CardsAtBy true o done s (length s.actions) run before d = subst (λ (k : ℕ). CardsAtBy true o done s k run before d) (sym actions) at in
          let low : 0 < run.next = let first = c.requires.going.low in omega (arith, first) in
          seconds-shown c.args.stretch.seconds c.args.stretch.speed c.args.stretch.begun run c.lit_turn.new.run before after d e (c.requires.going.lit lit) r.0.lit c.requires.stretch.some c.requires.stretch.minute c.requires.stretch.small low c.lit_turn.ensures.leaves.booked
          o done s now actions (λ more. none (omega (arith, more))) r.0 time r.1;
      speeds =
          λ o done s now actions none there time.
          let run = c.args.run.now in
          let before = c.args.outcome.now in
          let after = c.lit_turn.new.outcome in
          let d : Devices = devices (g.M.Medium.state c.args.unit.now) (g.C.Chip.state c.args.card_a.now) (g.D.Chip.state c.args.card_b.now) in
          let e : Devices = devices (g.M.Medium.state c.lit_turn.new.unit) (g.C.Chip.state c.lit_turn.new.card_a) (g.D.Chip.state c.lit_turn.new.card_b) in
          let lit : is_lit run.power ≡ true = sym c.is_lit.ensures ∙ c.if-not-is_lit.false in
          let at : SpeedsInBy true o done s c.args.stretch.begun run before d = subst (λ (b : Bool). SpeedsInBy b o done s c.args.stretch.begun run before d) lit there in
          let r : SpeedsInBy true o done s (length s.actions) run before d = subst (λ (k : ℕ). SpeedsInBy true o done s k run before d) (sym actions) at in
          subst (λ (x : Run). SpeedsBehind o (done ++ s ∷ driven (c.args.stretch.seconds - 1) (s.number + 1) c.args.stretch.speed []) x after e) (sym c.pass-2.ensures)
          (seconds-speeds c.args.stretch.seconds c.args.stretch.speed c.args.stretch.begun run c.lit_turn.new.run before after d e (c.requires.going.lit lit) r.0.lit c.requires.stretch.some c.requires.stretch.minute c.requires.stretch.small c.lit_turn.ensures.leaves.booked c.lit_turn.ensures.leaves.block
          o done s now actions (λ more. none (omega (arith, more))) r.0 time r.1 r.2);
      stands =
          λ o done s now actions none within time.
          let run = c.args.run.now in
          let before = c.args.outcome.now in
          let after = c.lit_turn.new.outcome in
          let d : Devices = devices (g.M.Medium.state c.args.unit.now) (g.C.Chip.state c.args.card_a.now) (g.D.Chip.state c.args.card_b.now) in
          let e : Devices = devices (g.M.Medium.state c.lit_turn.new.unit) (g.C.Chip.state c.lit_turn.new.card_a) (g.D.Chip.state c.lit_turn.new.card_b) in
          let lit : is_lit run.power ≡ true = sym c.is_lit.ensures ∙ c.if-not-is_lit.false in
          let r : RunWithin o done s (In c.args.stretch.begun) [] [] run before d = subst (λ (b : Bool). InSecondBy b o done s c.args.stretch.begun run before d) lit within in
          let low : 0 < run.next = let first = c.requires.going.low in omega (arith, first) in
          let there : RunWithin o done s (In (length s.actions)) [] [] run before d = subst (λ (k : ℕ). RunWithin o done s (In k) [] [] run before d) (sym actions) r in
          seconds-stand c.args.stretch.seconds c.args.stretch.speed c.args.stretch.begun run c.lit_turn.new.run before after d e (c.requires.going.lit lit) there.lit c.requires.stretch.some c.requires.stretch.minute c.requires.stretch.small low c.lit_turn.ensures.leaves.booked
          o done s now actions (λ more. none (omega (arith, more))) there time;
    }

pub returns-clause-goes : goal.returns-clause-goes
returns-clause-goes g c = record {
  later = c.lit_turn.ensures.goes.later;
  calm = c.lit_turn.ensures.goes.calm;
  more = c.lit_turn.ensures.goes.more;
  broke = c.lit_turn.ensures.goes.broke;
  most = c.lit_turn.ensures.goes.most;
}

pub lit_turn-requires-clause-stretch : goal.lit_turn-requires-clause-stretch
lit_turn-requires-clause-stretch g c = c.requires.stretch
