use Rattle.std.proofs.Common.{rules, ◌≡◌, ◌∙◌, inl, inr, Bool, true, ℕ, ◌+◌, ◌-◌, ◌%◌, ◌<◌, ◌≤◌, List, [], ◌++◌, refl, ap, sym, subst, arith, append_assoc}
use Rattle.std.proofs.lemmas.List.{append-nil}
use Rattle.trace_model.specs.Trace.{TraceSecond, driven}
use Rattle.device_calls.specs.safety_model.Safe.{Devices}
use Rattle.run_minutes.specs.run_promise.Between.{devices}
use Rattle.recorder_with_cards.proofs.SecondsRecorded.{plain-parts}
use Rattle.std.proofs.lemmas.Grind.{common_steps}
use Rattle.run_acts.specs.Room.{cuts_from}
use Rattle.recorder_with_cards.proofs.Rooms.{room-less}
use Rattle.run_acts.specs.Evented.{LastAt}
use Rattle.run_acts.specs.RunRinged.{RunRinged}
use Rattle.recorder_with_cards.specs.Carded.{RunTimely}
use Rattle.recorder_with_cards.proofs.SecondsEvented.{last-more}
use Rattle.run_minutes.proofs.Later.{after-same, after-then}
use Rattle.run_outcome.proofs.Broken.{broke-none, broke-then}
use Rattle.run_minutes.proofs.Calm.{calm-then, calm-same}
use Rattle.recorder_with_cards.proofs.Time.{after-time}
use Rattle.recorder_with_cards.specs.Writes.{WritesBetween, power_ons_told, powered, turns_among}
use Rattle.recorder_with_cards.proofs.Turns.{behind-more}
use Rattle.std.specs.Prelude.{is_err, ◌||◌}
use Rattle.run_acts.specs.Power.{is_lit}
use Rattle.recorder_with_cards.proofs.Writes.{between-none, between-then, between-more}
use Rattle.recorder_with_cards.proofs.driving.drive_on.Goals as goal

pub loop-left-init : goal.loop-left-init
loop-left-init g c = record {
  going = c.requires.going;
  next = refl;
  enough = c.requires.may.room;
  room = λ left offs insertions actions h. h;
  few = omega arith;
  ringed = λ o done last r time.
      let d : Devices = devices (g.M.Medium.state c.args.unit.now) (g.C.Chip.state c.args.card_a.now) (g.D.Chip.state c.args.card_b.now) in
      subst (λ (n : ℕ). LastAt (done ++ driven n c.args.run.now.next c.args.more.speed []) c.args.more.speed × RunRinged o (done ++ driven n c.args.run.now.next c.args.more.speed []) c.args.run.now c.args.outcome.now d) (let e : 0 ≡ c.args.more.seconds - c.args.more.seconds = omega arith in e)
      (subst (λ (ss : List TraceSecond). LastAt ss c.args.more.speed × RunRinged o ss c.args.run.now c.args.outcome.now d) (sym (append-nil done)) (last, r));
  cards = λ o done last r time.
      let d : Devices = devices (g.M.Medium.state c.args.unit.now) (g.C.Chip.state c.args.card_a.now) (g.D.Chip.state c.args.card_b.now) in
      subst (λ (n : ℕ). LastAt (done ++ driven n c.args.run.now.next c.args.more.speed []) c.args.more.speed × RunTimely o (done ++ driven n c.args.run.now.next c.args.more.speed []) c.args.run.now c.args.outcome.now d) (let e : 0 ≡ c.args.more.seconds - c.args.more.seconds = omega arith in e)
      (subst (λ (ss : List TraceSecond). LastAt ss c.args.more.speed × RunTimely o ss c.args.run.now c.args.outcome.now d) (sym (append-nil done)) (last, r));
  later = after-same (devices (g.M.Medium.state c.args.unit.now) (g.C.Chip.state c.args.card_a.now) (g.D.Chip.state c.args.card_b.now));
  calm = calm-same (devices (g.M.Medium.state c.args.unit.now) (g.C.Chip.state c.args.card_a.now) (g.D.Chip.state c.args.card_b.now));
  broke = broke-none c.args.outcome.now.breaks.items {old = (g.M.Medium.state c.args.unit.now)} {new = (g.M.Medium.state c.args.unit.now)} (omega arith);
  opens = λ some. inl (omega arith);
  most =
      let was : ℕ = powered c.args.run.now c.args.outcome.now in
      between-none (turns_among 1 (driven (c.args.more.seconds - c.args.more.seconds) c.args.run.now.next c.args.more.speed [])) 0 was was (devices (g.M.Medium.state c.args.unit.now) (g.C.Chip.state c.args.card_a.now) (g.D.Chip.state c.args.card_b.now)) (omega arith);
  unfound = c.requires.may.unfound;
}

pub step-requires-clause-room : goal.step-requires-clause-room
step-requires-clause-room g c = record {
  room =
      let most = c.turn_length-n.ensures.most in
      room-less cuts_from c.loop-left.run c.loop-left.outcome c.loop-left.left c.turn_length-n.result 0 0 0 0 0 0 (omega (arith, most)) (omega arith) (omega arith) (omega arith) c.loop-left.invariant.enough;
  unfound = first_of (search rules, grind (arith, common_steps));
}

pub loop-left-preserved : goal.loop-left-preserved
loop-left-preserved g c =
    let v = c.loop-left.invariant in
    let e = c.in_ok-step.ensures.gone in
    let room = c.in_ok-step.ensures.room in
    let n : ℕ = c.turn_length-n.result in
    let left : ℕ = c.loop-left.left in
    let most = c.turn_length-n.ensures.most in
    let next = e.next in
    record {
      going = e.going;
      next = let was = v.next in omega (arith, was, next, most);
      enough = room (left - n) 0 0 0 (room-less cuts_from c.loop-left.run c.loop-left.outcome left (n + (left - n)) 0 0 0 0 0 0 (omega (arith, most)) (omega arith) (omega arith) (omega arith) v.enough);
      room = λ more offs insertions actions h.
          room (left - n + more) offs insertions actions
          (room-less cuts_from c.loop-left.run c.loop-left.outcome (left + more) (n + (left - n + more)) offs offs insertions insertions actions actions (omega (arith, most)) (omega arith) (omega arith) (omega arith) (v.room more offs insertions actions h));
      few = let few = v.few in omega (arith, few);
      ringed = λ o done last r time.
          let so : ℕ = c.args.more.seconds - left in
          let was = v.ringed o done last r (after-time c.in_ok-step.ensures.goes.later time) in
          let few = v.few in
          let start = v.next in
          let here : c.loop-left.run.next ≡ c.args.run.now.next + so = omega (arith, start, few) in
          let e : Devices = devices (g.M.Medium.state c.step.new.unit) (g.C.Chip.state c.step.new.card_a) (g.D.Chip.state c.step.new.card_b) in
          subst (λ (ss : List TraceSecond). LastAt ss c.args.more.speed × RunRinged o ss c.step.new.run c.step.new.outcome e)
          (append_assoc done (driven so c.args.run.now.next c.args.more.speed []) (driven n c.loop-left.run.next c.args.more.speed [])
          ∙ ap (λ (ss : List TraceSecond). done ++ ss) (ap (λ (m : ℕ). driven so c.args.run.now.next c.args.more.speed [] ++ driven n m c.args.more.speed []) here ∙ sym (plain-parts so n c.args.run.now.next c.args.more.speed)
          ∙ ap (λ (m : ℕ). driven m c.args.run.now.next c.args.more.speed []) (let e : so + n ≡ c.args.more.seconds - (left - n) = omega (arith, few, most) in e)))
          (last-more n c.loop-left.run.next c.args.more.speed (done ++ driven so c.args.run.now.next c.args.more.speed []) was.0, c.in_ok-step.ensures.promises.ringed o (done ++ driven so c.args.run.now.next c.args.more.speed []) was.0 was.1 time);
      cards = λ o done last r time.
          let so : ℕ = c.args.more.seconds - left in
          let was = v.cards o done last r (after-time c.in_ok-step.ensures.goes.later time) in
          let few = v.few in
          let start = v.next in
          let here : c.loop-left.run.next ≡ c.args.run.now.next + so = omega (arith, start, few) in
          let e : Devices = devices (g.M.Medium.state c.step.new.unit) (g.C.Chip.state c.step.new.card_a) (g.D.Chip.state c.step.new.card_b) in
          subst (λ (ss : List TraceSecond). LastAt ss c.args.more.speed × RunTimely o ss c.step.new.run c.step.new.outcome e)
          (append_assoc done (driven so c.args.run.now.next c.args.more.speed []) (driven n c.loop-left.run.next c.args.more.speed [])
          ∙ ap (λ (ss : List TraceSecond). done ++ ss) (ap (λ (m : ℕ). driven so c.args.run.now.next c.args.more.speed [] ++ driven n m c.args.more.speed []) here ∙ sym (plain-parts so n c.args.run.now.next c.args.more.speed)
          ∙ ap (λ (m : ℕ). driven m c.args.run.now.next c.args.more.speed []) (let e : so + n ≡ c.args.more.seconds - (left - n) = omega (arith, few, most) in e)))
          (last-more n c.loop-left.run.next c.args.more.speed (done ++ driven so c.args.run.now.next c.args.more.speed []) was.0, c.in_ok-step.ensures.promises.cards o (done ++ driven so c.args.run.now.next c.args.more.speed []) was.0 was.1 time);
      later = after-then (devices (g.M.Medium.state c.args.unit.now) (g.C.Chip.state c.args.card_a.now) (g.D.Chip.state c.args.card_b.now)) (devices (g.M.Medium.state c.loop-left.unit) (g.C.Chip.state c.loop-left.card_a) (g.D.Chip.state c.loop-left.card_b)) (devices (g.M.Medium.state c.step.new.unit) (g.C.Chip.state c.step.new.card_a) (g.D.Chip.state c.step.new.card_b)) v.later c.in_ok-step.ensures.goes.later;
      calm = calm-then (devices (g.M.Medium.state c.args.unit.now) (g.C.Chip.state c.args.card_a.now) (g.D.Chip.state c.args.card_b.now)) (devices (g.M.Medium.state c.loop-left.unit) (g.C.Chip.state c.loop-left.card_a) (g.D.Chip.state c.loop-left.card_b)) (devices (g.M.Medium.state c.step.new.unit) (g.C.Chip.state c.step.new.card_a) (g.D.Chip.state c.step.new.card_b)) v.calm c.in_ok-step.ensures.goes.calm;
      opens = λ still.
          let few = v.few in
          let start = v.next in
          let e : c.loop-left.run.next + n ≡ c.args.run.now.next + (c.args.more.seconds - (left - n)) = omega (arith, start, few, most) in
          inr (subst (λ (k : ℕ). k % 60 ≤ 1) e (c.turn_length-n.ensures.opens (omega (arith, still))));
      most =
          let few = v.few in
          let some = c.loop-left-test.true in
          let still : 0 < left = omega (arith, some) in
          let so : ℕ = c.args.more.seconds - left in
          let one = behind-more so n c.args.run.now.next c.args.more.speed c.turn_length-n.ensures.some (v.opens still) in
          let all = ap (λ (k : ℕ). turns_among 1 (driven k c.args.run.now.next c.args.more.speed [])) (let e : so + n ≡ c.args.more.seconds - (left - n) = omega (arith, few, most) in e) in
          let so_many : ℕ = turns_among 1 (driven so c.args.run.now.next c.args.more.speed []) in
          let was : ℕ = powered c.args.run.now c.args.outcome.now in
          let here : ℕ = powered c.loop-left.run c.loop-left.outcome in
          let is : ℕ = powered c.step.new.run c.step.new.outcome in
          let d : Devices = devices (g.M.Medium.state c.args.unit.now) (g.C.Chip.state c.args.card_a.now) (g.D.Chip.state c.args.card_b.now) in
          let l : Devices = devices (g.M.Medium.state c.loop-left.unit) (g.C.Chip.state c.loop-left.card_a) (g.D.Chip.state c.loop-left.card_b) in
          let e : Devices = devices (g.M.Medium.state c.step.new.unit) (g.C.Chip.state c.step.new.card_a) (g.D.Chip.state c.step.new.card_b) in
          between-more (so_many + 1) (turns_among 1 (driven (c.args.more.seconds - (left - n)) c.args.run.now.next c.args.more.speed [])) 0 0 was was (0 + is) is d e (omega (arith, one, all)) (omega arith) (omega arith)
          (between-then so_many 1 0 0 was here here (0 + is) d l e (omega arith) v.most c.in_ok-step.ensures.goes.most);
      broke = broke-then c.loop-left.invariant.broke c.in_ok-step.ensures.goes.broke;
      unfound = e.unfound;
    }

pub returns-clause-room : goal.returns-clause-room
returns-clause-room g c = λ more offs insertions actions h.
    let left : ℕ = c.loop-left.left in
    room-less cuts_from c.loop-left.run c.loop-left.outcome (left + more) more offs offs insertions insertions actions actions (omega arith) (omega arith) (omega arith) (omega arith) (c.loop-left.invariant.room more offs insertions actions h)

pub returns-clause-gone : goal.returns-clause-gone
returns-clause-gone g c =
    let v = c.loop-left.invariant in
    record {
      late = tt;
      going = v.going;
      next = let next = v.next in let none = c.loop-left-test.false in omega (arith, next, none);
      unfound = v.unfound;
      is_unit = v.going.held.is_unit;
    }

pub returns-in_err-step-clause-gone : goal.returns-in_err-step-clause-gone
returns-in_err-step-clause-gone g c = record {
  late = first_of (search rules, grind (arith, common_steps));
  going = first_of (search rules, grind (arith, common_steps));
  next = first_of (search rules, grind (arith, common_steps));
  unfound = first_of (search rules, grind (arith, common_steps));
  is_unit = c.in_err-step.ensures.gone.is_unit;
}

pub returns-clause-goes : goal.returns-clause-goes
returns-clause-goes g c = record {
  later = c.loop-left.invariant.later;
  calm = c.loop-left.invariant.calm;
  broke = c.loop-left.invariant.broke;
  most =
      let none = c.loop-left-test.false in
      let turns : ℕ = turns_among 1 (driven c.args.more.seconds c.args.run.now.next c.args.more.speed []) in
      let was : ℕ = powered c.args.run.now c.args.outcome.now in
      let is : ℕ = powered c.loop-left.run c.loop-left.outcome in
      let d : Devices = devices (g.M.Medium.state c.args.unit.now) (g.C.Chip.state c.args.card_a.now) (g.D.Chip.state c.args.card_b.now) in
      let e : Devices = devices (g.M.Medium.state c.loop-left.unit) (g.C.Chip.state c.loop-left.card_a) (g.D.Chip.state c.loop-left.card_b) in
      between-more turns turns 0 0 was was is (0 + is) d e (omega arith) (omega arith) (omega arith)
      (subst (λ (n : ℕ). WritesBetween (turns_among 1 (driven n c.args.run.now.next c.args.more.speed [])) 0 was is d e) (let e : c.args.more.seconds - c.loop-left.left ≡ c.args.more.seconds = omega (arith, none) in e)
      c.loop-left.invariant.most);
}

pub returns-in_err-step-clause-goes : goal.returns-in_err-step-clause-goes
returns-in_err-step-clause-goes g c = record {
  later = after-then (devices (g.M.Medium.state c.args.unit.now) (g.C.Chip.state c.args.card_a.now) (g.D.Chip.state c.args.card_b.now)) (devices (g.M.Medium.state c.loop-left.unit) (g.C.Chip.state c.loop-left.card_a) (g.D.Chip.state c.loop-left.card_b)) (devices (g.M.Medium.state c.step.new.unit) (g.C.Chip.state c.step.new.card_a) (g.D.Chip.state c.step.new.card_b)) c.loop-left.invariant.later c.in_err-step.ensures.goes.later;
  calm = calm-then (devices (g.M.Medium.state c.args.unit.now) (g.C.Chip.state c.args.card_a.now) (g.D.Chip.state c.args.card_b.now)) (devices (g.M.Medium.state c.loop-left.unit) (g.C.Chip.state c.loop-left.card_a) (g.D.Chip.state c.loop-left.card_b)) (devices (g.M.Medium.state c.step.new.unit) (g.C.Chip.state c.step.new.card_a) (g.D.Chip.state c.step.new.card_b)) c.loop-left.invariant.calm c.in_err-step.ensures.goes.calm;
  broke = broke-then c.loop-left.invariant.broke c.in_err-step.ensures.goes.broke;
  most =
      let v = c.loop-left.invariant in
      let few = v.few in
      let some = c.loop-left-test.true in
      let left : ℕ = c.loop-left.left in
      let still : 0 < left = omega (arith, some) in
      let so : ℕ = c.args.more.seconds - left in
      let one = behind-more so left c.args.run.now.next c.args.more.speed still (v.opens still) in
      let all = ap (λ (k : ℕ). turns_among 1 (driven k c.args.run.now.next c.args.more.speed [])) (let e : so + left ≡ c.args.more.seconds = omega (arith, few) in e) in
      let so_many : ℕ = turns_among 1 (driven so c.args.run.now.next c.args.more.speed []) in
      let turns : ℕ = turns_among 1 (driven c.args.more.seconds c.args.run.now.next c.args.more.speed []) in
      let was : ℕ = powered c.args.run.now c.args.outcome.now in
      let here : ℕ = powered c.loop-left.run c.loop-left.outcome in
      let is : ℕ = power_ons_told true c.step.new.outcome.breaks.items in
      let d : Devices = devices (g.M.Medium.state c.args.unit.now) (g.C.Chip.state c.args.card_a.now) (g.D.Chip.state c.args.card_b.now) in
      let l : Devices = devices (g.M.Medium.state c.loop-left.unit) (g.C.Chip.state c.loop-left.card_a) (g.D.Chip.state c.loop-left.card_b) in
      let e : Devices = devices (g.M.Medium.state c.step.new.unit) (g.C.Chip.state c.step.new.card_a) (g.D.Chip.state c.step.new.card_b) in
      let failed : true ≡ is_err c.from_residual.result = search rules in
      subst (λ (b : Bool). WritesBetween turns 0 was (0 + power_ons_told (b || is_lit c.step.new.run.power) c.step.new.outcome.breaks.items) d e) failed
      (between-more (so_many + 1) turns 0 0 was was (0 + is) (0 + is) d e (omega (arith, one, all)) (omega arith) (omega arith)
      (between-then so_many 1 0 0 was here here (0 + is) d l e (omega arith) v.most c.in_err-step.ensures.goes.most));
}

-- ---- what is recorded, with its events and rings

pub returns-clause-promises : goal.returns-clause-promises
returns-clause-promises g c = record {
  ringed =
      λ o done last r time.
      let none = c.loop-left-test.false in
      subst (λ (n : ℕ). RunRinged o (done ++ driven n c.args.run.now.next c.args.more.speed []) c.loop-left.run c.loop-left.outcome (devices (g.M.Medium.state c.loop-left.unit) (g.C.Chip.state c.loop-left.card_a) (g.D.Chip.state c.loop-left.card_b))) (let e : c.args.more.seconds - c.loop-left.left ≡ c.args.more.seconds = omega (arith, none) in e)
      ((c.loop-left.invariant.ringed o done last r time).1);
  cards =
      λ o done last r time.
      let none = c.loop-left-test.false in
      subst (λ (n : ℕ). RunTimely o (done ++ driven n c.args.run.now.next c.args.more.speed []) c.loop-left.run c.loop-left.outcome (devices (g.M.Medium.state c.loop-left.unit) (g.C.Chip.state c.loop-left.card_a) (g.D.Chip.state c.loop-left.card_b))) (let e : c.args.more.seconds - c.loop-left.left ≡ c.args.more.seconds = omega (arith, none) in e)
      ((c.loop-left.invariant.cards o done last r time).1);
}

pub returns-in_err-step-clause-promises : goal.returns-in_err-step-clause-promises
returns-in_err-step-clause-promises g c = record {
  ringed =
      λ o done last r time.
      let was = c.loop-left.invariant.ringed o done last r (after-time c.in_err-step.ensures.goes.later time) in
      absurd (c.in_err-step.ensures.promises.ringed o (done ++ driven (c.args.more.seconds - c.loop-left.left) c.args.run.now.next c.args.more.speed []) was.0 was.1 time);
  cards =
      λ o done last r time.
      let was = c.loop-left.invariant.cards o done last r (after-time c.in_err-step.ensures.goes.later time) in
      absurd (c.in_err-step.ensures.promises.cards o (done ++ driven (c.args.more.seconds - c.loop-left.left) c.args.run.now.next c.args.more.speed []) was.0 was.1 time);
}

pub step-requires-clause-stretch : goal.step-requires-clause-stretch
step-requires-clause-stretch g c = record {
  some = first_of (search rules, grind (arith, common_steps));
  minute = first_of (search rules, grind (arith, common_steps));
  small = first_of (search rules, grind (arith, common_steps));
}
