use Rattle.std.proofs.lemmas.Grind.{common_steps}
use Rattle.std.proofs.Common.{rules, ◌≡◌, ◌∙◌, ◌+◌, Bool, true, false, length, refl, ap, sym, subst, arith}
use Rattle.log_model.specs.declared.lines.Refused.{Refused}
use Rattle.run_outcome.specs.Lines.{Listed}
use Rattle.run_acts.specs.Power.{is_lit}
use Rattle.recorder_with_cards.specs.Acting.{IsActed, put_count, refusal_lines, refused_by}
use Rattle.run_acts.specs.Room.{cuts_within}
use Rattle.run_acts.proofs.Standing.{lit-is}
use Rattle.recorder_with_cards.proofs.Rooms.{room-less}
use Rattle.run_minutes.specs.run_promise.Between.{devices}
use Rattle.recorder_with_cards.proofs.RingsHeld.{ringed-over}
use Rattle.recorder_with_cards.proofs.Allowed.{lit-refused}
use Rattle.run_minutes.proofs.Later.{later-same}
use Rattle.recorder_with_cards.proofs.CardsHeld.{carded-over}
use Rattle.run_outcome.proofs.Broken.{broke-none}
use Rattle.run_minutes.proofs.Calm.{calm-same}
use Rattle.std.proofs.lemmas.List.{append-nil}
use Rattle.run_minutes.specs.Keeping.{with_lines}
use Rattle.std.specs.Prelude.{List}
use Rattle.recorder_with_cards.proofs.Writes.{writes-none}
use Rattle.recorder_with_cards.proofs.acts.act.Goals as goal

-- ---- which devices are called

pub returns-then-not-has_power-clause-still : goal.returns-then-not-has_power-clause-still
returns-then-not-has_power-clause-still g c = λ none. (refl, refl, refl)

pub returns-then-not-is_lit-clause-still : goal.returns-then-not-is_lit-clause-still
returns-then-not-is_lit-clause-still g c = λ none. (refl, refl, refl)

pub returns-clause-still : goal.returns-clause-still
returns-clause-still g c = λ none.
    let lit : is_lit c.args.run.now.power ≡ true = sym c.is_lit.ensures ∙ c.if-not-is_lit.false in
    c.act_lit.ensures.still (none c.if-not-has_power.false lit)

-- ---- what is recorded, with its events and rings

pub returns-then-not-has_power-clause-promises : goal.returns-then-not-has_power-clause-promises
returns-then-not-has_power-clause-promises g c = λ power. absurd (let no : false ≡ true = sym c.if-not-has_power.true ∙ power in cc)

pub returns-then-not-is_lit-clause-promises : goal.returns-then-not-is_lit-clause-promises
returns-then-not-is_lit-clause-promises g c = λ power. record {
  ringed =
      λ o done s now front rest are begun in_ time.
      let dark : is_lit c.args.run.now.power ≡ false = sym c.is_lit.ensures ∙ c.if-not-is_lit.true in
      ringed-over o done s c.args.run.now c.args.outcome.now (devices (g.M.Medium.state c.args.unit.now) (g.C.Chip.state c.args.card_a.now) (g.D.Chip.state c.args.card_b.now)) (length front) c.args.deed.begun dark in_;
  cards =
      λ o done s now front rest are begun in_ time.
      let dark : is_lit c.args.run.now.power ≡ false = sym c.is_lit.ensures ∙ c.if-not-is_lit.true in
      carded-over o done s c.args.run.now c.args.outcome.now (devices (g.M.Medium.state c.args.unit.now) (g.C.Chip.state c.args.card_a.now) (g.D.Chip.state c.args.card_b.now)) (length front) c.args.deed.begun dark in_;
}

pub returns-clause-promises : goal.returns-clause-promises
returns-clause-promises g c = λ power. c.act_lit.ensures.promises

-- ---- how the run stands

pub returns-then-not-has_power-clause-behind : goal.returns-then-not-has_power-clause-behind
returns-then-not-has_power-clause-behind g c = record {
  going = c.requires.may.going;
  room = first_of (search rules, grind (arith, common_steps));
}

pub returns-then-not-is_lit-clause-behind : goal.returns-then-not-is_lit-clause-behind
returns-then-not-is_lit-clause-behind g c = record {
  going = c.requires.may.going;
  room =
      λ left offs insertions actions h.
      room-less cuts_within c.args.run.now c.args.outcome.now (1 + left) (1 + left) offs offs (put_count c.args.deed.action + insertions) insertions (1 + actions) actions (omega arith) (omega arith) (omega arith) (omega arith) h;
}

pub returns-clause-behind : goal.returns-clause-behind
returns-clause-behind g c = c.act_lit.ensures.behind

pub act_lit-requires : goal.act_lit-requires
act_lit-requires g c = record {
  may = record {
    lit = lit-is c.args.run.now.power (sym c.is_lit.ensures ∙ c.if-not-is_lit.false);
    going = c.requires.may.going;
    room = c.requires.may.room;
  };
}

-- ---- where no tear of a failed call is told no card has broken down

pub returns-then-not-has_power-clause-acted : goal.returns-then-not-has_power-clause-acted
returns-then-not-has_power-clause-acted g c = record {
  done =
      let run = c.args.run.now in
      let o = c.args.outcome.now in
      subst (λ (b : Bool). IsActed b (is_lit run.power) c.args.deed.action c.args.deed.begun c.args.deed.speed run run o (record o { refused = c.refuse.new.refused })) (sym c.if-not-has_power.true) (refl, ap (λ (l : Listed Refused). record o { refused = l }) c.refuse.ensures);
  refused = c.refuse.ensures ∙ ap (λ (b : Bool). with_lines (refusal_lines (refused_by b (is_lit c.args.run.now.power) c.args.run.now c.args.deed.speed c.args.deed.action) c.args.run.now.next c.args.deed.begun) c.args.outcome.now.refused) (sym c.if-not-has_power.true);
  none = λ no. refl;
  lost = λ power dark. absurd (let no : false ≡ true = sym c.if-not-has_power.true ∙ power in cc);
  dark = λ dark. dark;
  selected = λ lit. absurd (let no : true ≡ false = sym lit ∙ c.requires.may.dark c.if-not-has_power.true in cc);
  next = refl;
  unfound = refl;
}

pub returns-then-not-has_power-clause-goes : goal.returns-then-not-has_power-clause-goes
returns-then-not-has_power-clause-goes g c = record {
  later = later-same (devices (g.M.Medium.state c.args.unit.now) (g.C.Chip.state c.args.card_a.now) (g.D.Chip.state c.args.card_b.now));
  calm = calm-same (devices (g.M.Medium.state c.args.unit.now) (g.C.Chip.state c.args.card_a.now) (g.D.Chip.state c.args.card_b.now));
  more = omega arith;
  broke = broke-none c.args.outcome.now.breaks.items {old = (g.M.Medium.state c.args.unit.now)} {new = (g.M.Medium.state c.args.unit.now)} (omega arith);
  most = writes-none 0 1 (devices (g.M.Medium.state c.args.unit.now) (g.C.Chip.state c.args.card_a.now) (g.D.Chip.state c.args.card_b.now));
}

pub returns-then-not-is_lit-clause-acted : goal.returns-then-not-is_lit-clause-acted
returns-then-not-is_lit-clause-acted g c = record {
  done =
      let run = c.args.run.now in
      let o = c.args.outcome.now in
      let dark : is_lit run.power ≡ false = sym c.is_lit.ensures ∙ c.if-not-is_lit.true in
      subst (λ (b : Bool). IsActed b (is_lit run.power) c.args.deed.action c.args.deed.begun c.args.deed.speed run run o o) (sym c.if-not-has_power.false)
      (subst (λ (l : Bool). IsActed true l c.args.deed.action c.args.deed.begun c.args.deed.speed run run o o) (sym dark) (refl, refl));
  refused =
      let lit : is_lit c.args.run.now.power ≡ false = sym c.is_lit.ensures ∙ c.if-not-is_lit.true in
      subst (λ (b : Bool). c.args.outcome.now.refused ≡ with_lines (refusal_lines (refused_by b (is_lit c.args.run.now.power) c.args.run.now c.args.deed.speed c.args.deed.action) c.args.run.now.next c.args.deed.begun) c.args.outcome.now.refused) (sym c.if-not-has_power.false)
      (subst (λ (l : Bool). c.args.outcome.now.refused ≡ with_lines (refusal_lines (refused_by true l c.args.run.now c.args.deed.speed c.args.deed.action) c.args.run.now.next c.args.deed.begun) c.args.outcome.now.refused) (sym lit) (ap (λ (xs : List Refused). record c.args.outcome.now.refused { items = xs }) (sym (append-nil c.args.outcome.now.refused.items))));
  none = λ no. refl;
  lost = λ power dark. (refl, refl);
  dark = λ dark. dark;
  selected =
      λ lit.
      let dark : is_lit c.args.run.now.power ≡ false = sym c.is_lit.ensures ∙ c.if-not-is_lit.true in
      absurd (let no : true ≡ false = sym lit ∙ dark in cc);
  next = refl;
  unfound = refl;
}

pub returns-then-not-is_lit-clause-goes : goal.returns-then-not-is_lit-clause-goes
returns-then-not-is_lit-clause-goes g c = record {
  later = later-same (devices (g.M.Medium.state c.args.unit.now) (g.C.Chip.state c.args.card_a.now) (g.D.Chip.state c.args.card_b.now));
  calm = calm-same (devices (g.M.Medium.state c.args.unit.now) (g.C.Chip.state c.args.card_a.now) (g.D.Chip.state c.args.card_b.now));
  more = omega arith;
  broke = broke-none c.args.outcome.now.breaks.items {old = (g.M.Medium.state c.args.unit.now)} {new = (g.M.Medium.state c.args.unit.now)} (omega arith);
  most = writes-none 0 1 (devices (g.M.Medium.state c.args.unit.now) (g.C.Chip.state c.args.card_a.now) (g.D.Chip.state c.args.card_b.now));
}

pub returns-clause-acted : goal.returns-clause-acted
returns-clause-acted g c = record {
  done =
      let run = c.args.run.now in
      let o = c.args.outcome.now in
      let lit : is_lit run.power ≡ true = sym c.is_lit.ensures ∙ c.if-not-is_lit.false in
      subst (λ (b : Bool). IsActed b (is_lit run.power) c.args.deed.action c.args.deed.begun c.args.deed.speed run c.act_lit.new.run o c.act_lit.new.outcome) (sym c.if-not-has_power.false)
      (subst (λ (l : Bool). IsActed true l c.args.deed.action c.args.deed.begun c.args.deed.speed run c.act_lit.new.run o c.act_lit.new.outcome) (sym lit) c.act_lit.ensures.acted.done);
  refused =
      let lit : is_lit c.args.run.now.power ≡ true = sym c.is_lit.ensures ∙ c.if-not-is_lit.false in
      subst (λ (b : Bool). c.act_lit.new.outcome.refused ≡ with_lines (refusal_lines (refused_by b (is_lit c.args.run.now.power) c.args.run.now c.args.deed.speed c.args.deed.action) c.args.run.now.next c.args.deed.begun) c.args.outcome.now.refused) (sym c.if-not-has_power.false)
      (subst (λ (l : Bool). c.act_lit.new.outcome.refused ≡ with_lines (refusal_lines (refused_by true l c.args.run.now c.args.deed.speed c.args.deed.action) c.args.run.now.next c.args.deed.begun) c.args.outcome.now.refused) (sym lit) (c.act_lit.ensures.acted.refused));
  none =
      λ no. c.act_lit.ensures.acted.none (λ is.
      let run = c.args.run.now in
      let lit : is_lit run.power ≡ true = sym c.is_lit.ensures ∙ c.if-not-is_lit.false in
      no (lit-refused c.args.deed.has_power (is_lit run.power) run c.args.deed.speed c.args.deed.action c.if-not-has_power.false lit is));
  lost =
      λ power dark.
      let lit : is_lit c.args.run.now.power ≡ true = sym c.is_lit.ensures ∙ c.if-not-is_lit.false in
      absurd (let no : true ≡ false = sym lit ∙ dark in cc);
  dark =
      λ dark.
      let lit : is_lit c.args.run.now.power ≡ true = sym c.is_lit.ensures ∙ c.if-not-is_lit.false in
      absurd (let no : true ≡ false = sym lit ∙ dark in cc);
  selected = λ lit. c.act_lit.ensures.acted.selected;
  next = c.act_lit.ensures.acted.next;
  unfound = c.act_lit.ensures.acted.unfound;
}

pub returns-clause-goes : goal.returns-clause-goes
returns-clause-goes g c = record {
  later = c.act_lit.ensures.goes.later;
  calm = c.act_lit.ensures.goes.calm;
  more = c.act_lit.ensures.goes.more;
  broke = c.act_lit.ensures.goes.broke;
  most = c.act_lit.ensures.goes.most;
}
