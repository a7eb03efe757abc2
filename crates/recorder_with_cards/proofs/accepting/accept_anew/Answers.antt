use Rattle.std.proofs.lemmas.Grind.{common_steps}
use Rattle.std.proofs.Common.{rules, ◌≡◌, ◌∙◌, ℕ, false, Option, Some, None, sym, subst, arith, ◌*◌, ◌+◌, length, ◌≤◌, refl}
use Rattle.std.specs.Prelude.{is_err}
use Rattle.trace_model.specs.declared.Card.{Card}
use Rattle.device_calls.specs.safety_model.Safe.{Devices}
use Rattle.run_minutes.specs.run_promise.Between.{devices}
use Rattle.run_minutes.specs.card_slots.Calls.{seat_in, card_in}
use Rattle.run_acts.specs.Room.{Takes, bare_count}
use Rattle.recorder_with_cards.specs.Judged.{JudgesAnew, EventsAnew}
use Rattle.recorder_with_cards.specs.Noting.{NotesAnew}
use Rattle.recorder_with_cards.proofs.Judged.{none-noting}
use Rattle.recorder_with_cards.proofs.Goes.{bare-one}
use Rattle.run_acts.proofs.run_rings.Same.{rings-left}
use Rattle.recorder_with_cards.specs.EnteredRings.{RingsAnew}
use Rattle.recorder_with_cards.specs.JudgedRings.{RingsJudgedAnew}
use Rattle.run_minutes.proofs.Later.{later-same}
use Rattle.recorder_with_cards.specs.JudgedCards.{CardsAnew}
use Rattle.run_minutes.proofs.Calm.{calm-same}
use Rattle.run_outcome.specs.declared.outcome.TheConstants.{MOST_OWED}
use Rattle.run_minutes.specs.card_slots.declared.seats.Seat.{Seat}
use Rattle.recorder_with_cards.specs.Accepting.{IsAnew}
use Rattle.tach_media.proofs.Runs.{no_reads}
use Rattle.recorder_with_cards.proofs.accepting.accept_anew.Given.{Over}
use Rattle.recorder_with_cards.proofs.accepting.accept_anew.Goals.{After-accept_in}
use Rattle.run_minutes.proofs.Writes.{wrote-none}
use Rattle.recorder_with_cards.proofs.accepting.accept_anew.Goals as goal

-- ---- the card that was judged

module _ (g : Over) (c : After-accept_in g) where
  abbrev before : Devices
  before = devices (g.M.Medium.state c.args.unit.now) (g.C.Chip.state c.args.card_a.now) (g.D.Chip.state c.args.card_b.now)

  abbrev behind : Devices
  behind = devices (g.M.Medium.state c.accept_in.new.unit) (g.C.Chip.state c.accept_in.new.card_a) (g.D.Chip.state c.accept_in.new.card_b)

  abbrev seat : Option Seat
  seat = seat_in c.args.run.now.keeper.cabin.slots.seats c.args.anew.slot

  sits : card_in seat ≡ Some c.in-Some.card
  sits = sym c.card.ensures ∙ c.in-Some.is

  one : bare_count seat ≡ 1
  one = bare-one seat c.in-Some.card sits c.requires.may.bare

  room-here : length c.args.outcome.now.marks.items + MOST_OWED * bare_count seat ≤ c.args.outcome.now.marks.room → length c.args.outcome.now.marks.items + MOST_OWED ≤ c.args.outcome.now.marks.room
  room-here room = let same = one in omega (arith, room, same)

pub accept_in-requires-clause-acting : goal.accept_in-requires-clause-acting
accept_in-requires-clause-acting g c = c.requires.acting

pub returns-clause-takes : goal.returns-clause-takes
returns-clause-takes g c =
    subst (λ (n : ℕ). Takes n 0 0 c.args.run.now c.accept_in.new.run c.args.outcome.now c.accept_in.new.outcome) (sym (one g c)) c.accept_in.ensures.takes

-- ---- where no tear of a failed call is told no card has broken down

pub returns-in_default-clause-accepted : goal.returns-in_default-clause-accepted
returns-in_default-clause-accepted g c = record {
  enters =
      let none : card_in (seat_in c.args.run.now.keeper.cabin.slots.seats c.args.anew.slot) ≡ None = search rules in
      subst (λ (q : Option Card). IsAnew q c.args.anew.slot c.args.anew.at c.args.anew.speed c.args.run.now c.args.run.now c.args.outcome.now c.args.outcome.now) (sym none) (refl, refl);
  run = refl;
  refused = refl;
  beside = refl;
}

pub returns-in_default-clause-promises : goal.returns-in_default-clause-promises
returns-in_default-clause-promises g c = λ room. record {
  recorded =
      let none : card_in (seat_in c.args.run.now.keeper.cabin.slots.seats c.args.anew.slot) ≡ None = search rules in
      let d : Devices = devices (g.M.Medium.state c.args.unit.now) (g.C.Chip.state c.args.card_a.now) (g.D.Chip.state c.args.card_b.now) in
      subst (λ (q : Option Card). JudgesAnew q c.args.anew.slot c.args.anew.at false c.args.run.now c.args.run.now c.args.outcome.now c.args.outcome.now d d) (sym none) refl;
  evented =
      let none : card_in (seat_in c.args.run.now.keeper.cabin.slots.seats c.args.anew.slot) ≡ None = search rules in
      let d : Devices = devices (g.M.Medium.state c.args.unit.now) (g.C.Chip.state c.args.card_a.now) (g.D.Chip.state c.args.card_b.now) in
      subst (λ (q : Option Card). EventsAnew q c.args.anew.slot c.args.anew.at c.args.anew.speed false c.args.run.now c.args.run.now c.args.outcome.now c.args.outcome.now d d) (sym none) tt;
  ringed =
      let none : card_in (seat_in c.args.run.now.keeper.cabin.slots.seats c.args.anew.slot) ≡ None = search rules in
      let d : Devices = devices (g.M.Medium.state c.args.unit.now) (g.C.Chip.state c.args.card_a.now) (g.D.Chip.state c.args.card_b.now) in
      subst (λ (q : Option Card). RingsJudgedAnew q c.args.anew.slot c.args.anew.at false c.args.run.now c.args.run.now c.args.outcome.now c.args.outcome.now d d) (sym none) tt;
  cards =
      let none : card_in (seat_in c.args.run.now.keeper.cabin.slots.seats c.args.anew.slot) ≡ None = search rules in
      let d : Devices = devices (g.M.Medium.state c.args.unit.now) (g.C.Chip.state c.args.card_a.now) (g.D.Chip.state c.args.card_b.now) in
      subst (λ (q : Option Card). CardsAnew q c.args.anew.slot c.args.anew.at c.args.anew.speed false c.args.run.now c.args.outcome.now c.args.outcome.now d d) (sym none) tt;
}

pub returns-in_default-clause-leaves : goal.returns-in_default-clause-leaves
returns-in_default-clause-leaves g c = record {
  rings =
      let none : card_in (seat_in c.args.run.now.keeper.cabin.slots.seats c.args.anew.slot) ≡ None = search rules in
      let U = g.M.Medium.state c.args.unit.now in
      subst (λ (q : Option Card). RingsAnew q c.args.anew.slot c.args.anew.at c.args.anew.speed false c.args.run.now c.args.run.now c.args.outcome.now c.args.outcome.now U U) (sym none) (rings-left U);
  noted =
      let none : card_in (seat_in c.args.run.now.keeper.cabin.slots.seats c.args.anew.slot) ≡ None = search rules in
      let d : Devices = devices (g.M.Medium.state c.args.unit.now) (g.C.Chip.state c.args.card_a.now) (g.D.Chip.state c.args.card_b.now) in
      subst (λ (q : Option Card). NotesAnew q c.args.anew.slot c.args.anew.at c.args.anew.speed false c.args.run.now c.args.run.now c.args.outcome.now c.args.outcome.now d d) (sym none)
      (none-noting c.args.anew.slot c.args.anew.at c.args.anew.speed c.args.run.now c.args.outcome.now (g.M.Medium.state c.args.unit.now) (g.C.Chip.state c.args.card_a.now) (g.D.Chip.state c.args.card_b.now));
}

pub returns-in_default-clause-behind : goal.returns-in_default-clause-behind
returns-in_default-clause-behind g c = record {
  held =
      record {
        held = c.requires.acting.held;
        cause = (no_reads (g.M.Medium.state c.args.unit.now) c.requires.acting.going.ready.unit_ready.works).cause;
      };
  going = first_of (search rules, grind (arith, common_steps));
}

pub returns-in_default-clause-goes : goal.returns-in_default-clause-goes
returns-in_default-clause-goes g c = record {
  later = later-same (devices (g.M.Medium.state c.args.unit.now) (g.C.Chip.state c.args.card_a.now) (g.D.Chip.state c.args.card_b.now));
  calm = calm-same (devices (g.M.Medium.state c.args.unit.now) (g.C.Chip.state c.args.card_a.now) (g.D.Chip.state c.args.card_b.now));
  most = wrote-none 24 1072 (devices (g.M.Medium.state c.args.unit.now) (g.C.Chip.state c.args.card_a.now) (g.D.Chip.state c.args.card_b.now));
}

pub returns-clause-accepted : goal.returns-clause-accepted
returns-clause-accepted g c = record {
  enters = subst (λ (q : Option Card). IsAnew q c.args.anew.slot c.args.anew.at c.args.anew.speed c.args.run.now c.accept_in.new.run c.args.outcome.now c.accept_in.new.outcome) (sym (sits g c)) c.accept_in.ensures.accepted.enters;
  run = c.accept_in.ensures.accepted.run;
  refused = c.accept_in.ensures.accepted.refused;
  beside = c.accept_in.ensures.accepted.beside;
}

pub returns-clause-promises : goal.returns-clause-promises
returns-clause-promises g c = λ room. record {
  recorded =
      subst (λ (q : Option Card). JudgesAnew q c.args.anew.slot c.args.anew.at (is_err c.accept_in.result) c.args.run.now c.accept_in.new.run c.args.outcome.now c.accept_in.new.outcome (before g c) (behind g c)) (sym (sits g c))
      (c.accept_in.ensures.promises (room-here g c room)).recorded;
  evented =
      subst (λ (q : Option Card). EventsAnew q c.args.anew.slot c.args.anew.at c.args.anew.speed (is_err c.accept_in.result) c.args.run.now c.accept_in.new.run c.args.outcome.now c.accept_in.new.outcome (before g c) (behind g c)) (sym (sits g c))
      (c.accept_in.ensures.promises (room-here g c room)).evented;
  ringed =
      subst (λ (q : Option Card). RingsJudgedAnew q c.args.anew.slot c.args.anew.at (is_err c.accept_in.result) c.args.run.now c.accept_in.new.run c.args.outcome.now c.accept_in.new.outcome (before g c) (behind g c)) (sym (sits g c))
      (c.accept_in.ensures.promises (room-here g c room)).ringed;
  cards =
      subst (λ (q : Option Card). CardsAnew q c.args.anew.slot c.args.anew.at c.args.anew.speed (is_err c.accept_in.result) c.args.run.now c.args.outcome.now c.accept_in.new.outcome (before g c) (behind g c)) (sym (sits g c))
      (c.accept_in.ensures.promises (room-here g c room)).cards;
}

pub returns-clause-leaves : goal.returns-clause-leaves
returns-clause-leaves g c = record {
  rings = subst (λ (q : Option Card). RingsAnew q c.args.anew.slot c.args.anew.at c.args.anew.speed (is_err c.accept_in.result) c.args.run.now c.accept_in.new.run c.args.outcome.now c.accept_in.new.outcome (g.M.Medium.state c.args.unit.now) (g.M.Medium.state c.accept_in.new.unit)) (sym (sits g c)) c.accept_in.ensures.leaves.rings;
  noted = subst (λ (q : Option Card). NotesAnew q c.args.anew.slot c.args.anew.at c.args.anew.speed (is_err c.accept_in.result) c.args.run.now c.accept_in.new.run c.args.outcome.now c.accept_in.new.outcome (before g c) (behind g c)) (sym (sits g c)) c.accept_in.ensures.leaves.noted;
}

pub returns-clause-behind : goal.returns-clause-behind
returns-clause-behind g c = record {
  held =
      record {
        held = c.accept_in.ensures.behind.held.held;
        cause = c.accept_in.ensures.behind.held.cause;
      };
  going = first_of (search rules, grind (arith, common_steps));
}

pub returns-clause-goes : goal.returns-clause-goes
returns-clause-goes g c = record {
  later = c.accept_in.ensures.goes.later;
  calm = c.accept_in.ensures.goes.calm;
  most = c.accept_in.ensures.goes.most;
}

pub accept_in-requires-clause-may : goal.accept_in-requires-clause-may
accept_in-requires-clause-may g c = record {
  none = c.requires.may.none;
  at = c.requires.may.at;
  seat = first_of (search rules, grind (arith, common_steps));
  breaks = c.requires.may.breaks;
  finds = first_of (search rules, grind (arith, common_steps));
}
