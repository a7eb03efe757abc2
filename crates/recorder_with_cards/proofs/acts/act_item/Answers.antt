use Rattle.std.proofs.Common.{◌≡◌, ◌∙◌, ℕ, ◌+◌, List, true, false, ap, sym, subst, arith, refl}
use Rattle.run_outcome.specs.Room.{insertion_count}
use Rattle.run_acts.specs.Room.{HasRoomWithin, cuts_within}
use Rattle.trace_model.specs.declared.Action.{Action}
use Rattle.trace_model.specs.declared.Item.{Item}
use Rattle.run_acts.specs.Power.{is_lit}
use Rattle.recorder_with_cards.specs.Acting.{IsItemActed}
use Rattle.run_minutes.specs.run_promise.Between.{devices}
use Rattle.device_calls.specs.safety_model.Safe.{Devices}
use Rattle.recorder_with_cards.specs.Recorded.{action_of, RingsActions}
use Rattle.run_acts.specs.RunRinged.{InSecondRinged}
use Rattle.recorder_with_cards.proofs.ActsRecorded.{no-action}
use Rattle.recorder_with_cards.proofs.Allowed.{count-is}
use Rattle.recorder_with_cards.proofs.Rooms.{room-less}
use Rattle.recorder_with_cards.specs.Carded.{InSecondCarded, CardsActions}
use Rattle.run_outcome.proofs.Broken.{broke-none}
use Rattle.run_minutes.proofs.Calm.{calm-same}
use Rattle.run_minutes.proofs.Later.{later-same}
use Rattle.recorder_with_cards.proofs.Writes.{writes-none}
use Rattle.recorder_with_cards.proofs.acts.act_item.Goals as goal

pub act-requires : goal.act-requires
act-requires g c = record {
  may = record {
    going = c.requires.may.going;
    dark = c.requires.may.dark;
    room = subst (λ (k : ℕ). HasRoomWithin c.args.run.now c.args.outcome.now 1 0 k 1) (ap insertion_count c.in-Act.is ∙ count-is c.in-Act.action) c.requires.may.room;
  };
}

pub returns-in-Act-clause-behind : goal.returns-in-Act-clause-behind
returns-in-Act-clause-behind g c = record {
  going = c.act.ensures.behind.going;
  room =
      λ left offs insertions actions h.
      c.act.ensures.behind.room left offs insertions actions
      (subst (λ (k : ℕ). HasRoomWithin c.args.run.now c.args.outcome.now (1 + left) offs (k + insertions) (1 + actions)) (ap insertion_count c.in-Act.is ∙ count-is c.in-Act.action) h);
}

pub returns-in-Run-clause-behind : goal.returns-in-Run-clause-behind
returns-in-Run-clause-behind g c = record {
  going = c.requires.may.going;
  room =
      λ left offs insertions actions h.
      room-less cuts_within c.args.run.now c.args.outcome.now (1 + left) (1 + left) offs offs (insertion_count c.args.due.item + insertions) insertions (1 + actions) actions (omega arith) (omega arith) (omega arith) (omega arith) h;
}

pub returns-in-Off-clause-behind : goal.returns-in-Off-clause-behind
returns-in-Off-clause-behind g c = record {
  going = c.requires.may.going;
  room =
      λ left offs insertions actions h.
      room-less cuts_within c.args.run.now c.args.outcome.now (1 + left) (1 + left) offs offs (insertion_count c.args.due.item + insertions) insertions (1 + actions) actions (omega arith) (omega arith) (omega arith) (omega arith) h;
}

pub returns-in-Act-clause-still : goal.returns-in-Act-clause-still
returns-in-Act-clause-still g c = λ dark.
    let same = c.act.ensures.still (λ power lit. absurd (let no : false ≡ true = sym dark ∙ lit in cc)) in
    (c.act.ensures.acted.dark dark, same.0, same.1, same.2)

-- ---- what is recorded, with its events and rings

pub returns-in-Act-clause-promises : goal.returns-in-Act-clause-promises
returns-in-Act-clause-promises g c = λ power. record {
  ringed =
      subst (λ (xs : List Action). RingsActions xs c.args.due.begun c.args.due.speed c.args.run.now c.act.new.run c.args.outcome.now c.act.new.outcome (devices (g.M.Medium.state c.args.unit.now) (g.C.Chip.state c.args.card_a.now) (g.D.Chip.state c.args.card_b.now)) (devices (g.M.Medium.state c.act.new.unit) (g.C.Chip.state c.act.new.card_a) (g.D.Chip.state c.act.new.card_b))) (sym (ap action_of c.in-Act.is)) (c.act.ensures.promises power).ringed;
  cards =
      subst (λ (xs : List Action). CardsActions xs c.args.due.begun c.args.due.speed c.args.run.now c.act.new.run c.args.outcome.now c.act.new.outcome (devices (g.M.Medium.state c.args.unit.now) (g.C.Chip.state c.args.card_a.now) (g.D.Chip.state c.args.card_b.now)) (devices (g.M.Medium.state c.act.new.unit) (g.C.Chip.state c.act.new.card_a) (g.D.Chip.state c.act.new.card_b))) (sym (ap action_of c.in-Act.is)) (c.act.ensures.promises power).cards;
}

pub returns-in-Run-clause-promises : goal.returns-in-Run-clause-promises
returns-in-Run-clause-promises g c = λ power. record {
  ringed =
      let d : Devices = devices (g.M.Medium.state c.args.unit.now) (g.C.Chip.state c.args.card_a.now) (g.D.Chip.state c.args.card_b.now) in
      subst (λ (xs : List Action). RingsActions xs c.args.due.begun c.args.due.speed c.args.run.now c.args.run.now c.args.outcome.now c.args.outcome.now d d) (sym (ap action_of c.in-Run.is)) (no-action InSecondRinged c.args.due.begun c.args.due.speed c.args.run.now c.args.outcome.now d);
  cards =
      let d : Devices = devices (g.M.Medium.state c.args.unit.now) (g.C.Chip.state c.args.card_a.now) (g.D.Chip.state c.args.card_b.now) in
      subst (λ (xs : List Action). CardsActions xs c.args.due.begun c.args.due.speed c.args.run.now c.args.run.now c.args.outcome.now c.args.outcome.now d d) (sym (ap action_of c.in-Run.is)) (no-action InSecondCarded c.args.due.begun c.args.due.speed c.args.run.now c.args.outcome.now d);
}

pub returns-in-Off-clause-promises : goal.returns-in-Off-clause-promises
returns-in-Off-clause-promises g c = λ power. record {
  ringed =
      let d : Devices = devices (g.M.Medium.state c.args.unit.now) (g.C.Chip.state c.args.card_a.now) (g.D.Chip.state c.args.card_b.now) in
      subst (λ (xs : List Action). RingsActions xs c.args.due.begun c.args.due.speed c.args.run.now c.args.run.now c.args.outcome.now c.args.outcome.now d d) (sym (ap action_of c.in-Off.is)) (no-action InSecondRinged c.args.due.begun c.args.due.speed c.args.run.now c.args.outcome.now d);
  cards =
      let d : Devices = devices (g.M.Medium.state c.args.unit.now) (g.C.Chip.state c.args.card_a.now) (g.D.Chip.state c.args.card_b.now) in
      subst (λ (xs : List Action). CardsActions xs c.args.due.begun c.args.due.speed c.args.run.now c.args.run.now c.args.outcome.now c.args.outcome.now d d) (sym (ap action_of c.in-Off.is)) (no-action InSecondCarded c.args.due.begun c.args.due.speed c.args.run.now c.args.outcome.now d);
}

-- ---- where no tear of a failed call is told no card has broken down

pub returns-in-Act-clause-acted : goal.returns-in-Act-clause-acted
returns-in-Act-clause-acted g c = record {
  done =
      let run = c.args.run.now in
      subst (λ (i : Item). IsItemActed i c.args.due.has_power (is_lit run.power) c.args.due.begun c.args.due.speed run c.act.new.run c.args.outcome.now c.act.new.outcome) (sym c.in-Act.is) c.act.ensures.acted.done;
  dark = λ no. c.act.ensures.acted.dark (c.requires.may.dark no);
  next = c.act.ensures.acted.next;
  unfound = c.act.ensures.acted.unfound;
}

pub returns-in-Act-clause-goes : goal.returns-in-Act-clause-goes
returns-in-Act-clause-goes g c = record {
  later = c.act.ensures.goes.later;
  calm = c.act.ensures.goes.calm;
  more = c.act.ensures.goes.more;
  broke = c.act.ensures.goes.broke;
  most = c.act.ensures.goes.most;
}

pub returns-in-Run-clause-acted : goal.returns-in-Run-clause-acted
returns-in-Run-clause-acted g c = record {
  done = subst (λ (i : Item). IsItemActed i c.args.due.has_power (is_lit c.args.run.now.power) c.args.due.begun c.args.due.speed c.args.run.now c.args.run.now c.args.outcome.now c.args.outcome.now) (sym c.in-Run.is) (refl, refl);
  dark = λ no. c.requires.may.dark no;
  next = refl;
  unfound = refl;
}

pub returns-in-Run-clause-goes : goal.returns-in-Run-clause-goes
returns-in-Run-clause-goes g c = record {
  later = later-same (devices (g.M.Medium.state c.args.unit.now) (g.C.Chip.state c.args.card_a.now) (g.D.Chip.state c.args.card_b.now));
  calm = calm-same (devices (g.M.Medium.state c.args.unit.now) (g.C.Chip.state c.args.card_a.now) (g.D.Chip.state c.args.card_b.now));
  more = omega arith;
  broke = broke-none c.args.outcome.now.breaks.items {old = (g.M.Medium.state c.args.unit.now)} {new = (g.M.Medium.state c.args.unit.now)} (omega arith);
  most = writes-none 0 1 (devices (g.M.Medium.state c.args.unit.now) (g.C.Chip.state c.args.card_a.now) (g.D.Chip.state c.args.card_b.now));
}

pub returns-in-Off-clause-acted : goal.returns-in-Off-clause-acted
returns-in-Off-clause-acted g c = record {
  done = subst (λ (i : Item). IsItemActed i c.args.due.has_power (is_lit c.args.run.now.power) c.args.due.begun c.args.due.speed c.args.run.now c.args.run.now c.args.outcome.now c.args.outcome.now) (sym c.in-Off.is) (refl, refl);
  dark = λ no. c.requires.may.dark no;
  next = refl;
  unfound = refl;
}

pub returns-in-Off-clause-goes : goal.returns-in-Off-clause-goes
returns-in-Off-clause-goes g c = record {
  later = later-same (devices (g.M.Medium.state c.args.unit.now) (g.C.Chip.state c.args.card_a.now) (g.D.Chip.state c.args.card_b.now));
  calm = calm-same (devices (g.M.Medium.state c.args.unit.now) (g.C.Chip.state c.args.card_a.now) (g.D.Chip.state c.args.card_b.now));
  more = omega arith;
  broke = broke-none c.args.outcome.now.breaks.items {old = (g.M.Medium.state c.args.unit.now)} {new = (g.M.Medium.state c.args.unit.now)} (omega arith);
  most = writes-none 0 1 (devices (g.M.Medium.state c.args.unit.now) (g.C.Chip.state c.args.card_a.now) (g.D.Chip.state c.args.card_b.now));
}
