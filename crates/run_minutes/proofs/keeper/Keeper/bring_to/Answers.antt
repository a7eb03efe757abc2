use Rattle.std.proofs.lemmas.Grind.{common_steps}
use Rattle.std.proofs.Common.{rules, ◌≡◌, ◌∙◌, ℕ, ◌+◌, Bool, true, false, Option, Some, None, IfSome, refl, ap, sym, subst, arith}
use Rattle.std.specs.Prelude.{is_err, [], ◌∷◌}
use Rattle.tach_media.specs.Medium.{HasCause}
use Rattle.tach_media.proofs.Runs.{ok_gives, starts}
use Rattle.run_model.specs.declared.Device.{Device}
use Rattle.run_crew.specs.declared.cards.Accepted.{Accepted}
use Rattle.run_crew.specs.declared.cards.Cards.{Cards}
use Rattle.run_crew.specs.declared.cabin.Cabin.{Cabin}
use Rattle.run_crew.specs.Cards.{known_of, session_of, with_session}
use Rattle.run_crew.specs.Cabin.{CabinIsSound, MayKeepAt, torn_out, left_from, slot_with, crew_of}
use Rattle.run_crew.proofs.Moves.{kept-stands}
use Rattle.run_crew.proofs.Sessions.{begun_holds}
use Rattle.run_minutes.specs.declared.keeper.Keeper.{Keeper}
use Rattle.run_crew.specs.declared.cards.Known.{Known}
use Rattle.run_minutes.specs.Owing.{BooksCard}
use Rattle.run_minutes.specs.Keeping.{CardMayBeCalled, HasItsRow, Still, Has, Fell, IsNotingFault, with_lines}
use Rattle.run_minutes.proofs.CardBrought.{hands-few}
use Rattle.run_minutes.proofs.Units.{row-beside}
use Rattle.run_minutes.proofs.Sessions.{session-twice, stands-later, torn-stands}
use Rattle.run_minutes.proofs.Fates.{has-brought, fell-brought, still-brought}
use Rattle.run_minutes.proofs.CardBooked.{session-set, no-session, none-there, session-unset, booked-still, booked-fell, booked-has}
use Rattle.run_minutes.proofs.Later.{state-same, state-by}
use Rattle.run_minutes.proofs.keeper.Keeper.bring_to.Goals as goal

-- ---- its keep may be asked for: the entries by hand that its session holds lie before the minute

pub keep_on_card-requires-clause-may : goal.keep_on_card-requires-clause-may
keep_on_card-requires-clause-may g c = record {
  later = (subst (λ (o : Option Accepted). IfSome o (MayKeepAt c.args.keep.kept.entry.minute)) (sym c.in-Some.ensures.taken) c.requires.may.behind).lie;
  first = c.requires.may.first;
  last = c.requires.may.last;
  fits = c.requires.may.fits;
}

-- ---- it has no session

pub returns-in_default-clause-brought : goal.returns-in_default-clause-brought
returns-in_default-clause-brought g c =
    let k = c.args.self.now in
    let U = g.M.Medium.state c.args.unit.now in
    let X = g.C.Chip.state c.args.card.now in
    let gone = no-session c.args.keep.which k.cabin.cards (g.C.Chip.card c.args.card.now) X c.requires.card (λ app is. c.in_default.not-Ok app (ap (λ (q : Known). q.sizes) c.of.ensures ∙ is)) in (
      Still,
      still-brought c.args.keep.which c.args.keep.kept c.args.keep.at k k c.args.marks.now c.args.breaks.now U U X X gone refl,
      starts U (IsNotingFault Still c.args.keep.at.second (crew_of k.cabin)),
      booked-still c.args.keep.which c.args.keep.kept k.cabin.cards U X gone,
    )

pub returns-in_default-take-clause-brought : goal.returns-in_default-take-clause-brought
returns-in_default-take-clause-brought g c =
    let k = c.args.self.now in
    let U = g.M.Medium.state c.args.unit.now in
    let X = g.C.Chip.state c.args.card.now in
    let gone : session_of k.cabin.cards c.args.keep.which ≡ None = sym c.take.ensures.taken ∙ none-there c.take.result c.in_default-take.not-Some in
    let same : c.take.new.self ≡ k.cabin.cards = c.take.ensures.left ∙ session-unset c.args.keep.which k.cabin.cards gone in (
      Still,
      still-brought c.args.keep.which c.args.keep.kept c.args.keep.at k (record k { cabin = record { slots = k.cabin.slots; cards = c.take.new.self } }) c.args.marks.now c.args.breaks.now U U X X gone (ap (λ (q : Cards). record k { cabin = record { slots = k.cabin.slots; cards = q } }) same),
      starts U (IsNotingFault Still c.args.keep.at.second (crew_of (record { slots = k.cabin.slots; cards = c.take.new.self }))),
      subst (λ (q : Cards). BooksCard c.args.keep.which c.args.keep.kept Still k.cabin.cards q U X X) (sym same) (booked-still c.args.keep.which c.args.keep.kept k.cabin.cards U X gone),
    )

-- ---- the call failed

pub returns-then-is_err-clause-brought : goal.returns-then-is_err-clause-brought
returns-then-is_err-clause-brought g c =
    let k = c.args.self.now in
    let bad : is_err c.keep_on_card.result ≡ true = sym c.is_err.ensures.value ∙ c.if-is_err.true in
    let cause = subst (λ (b : Bool). HasCause (g.C.Chip.state c.args.card.now) (g.C.Chip.state c.keep_on_card.new.card) b) bad c.keep_on_card.ensures.card.cause in
    let keeper =
    c.tear.ensures.torn.keeper ∙ ap (λ (cards : Cards). record k { cabin = torn_out c.args.keep.which c.args.keep.at.second (record { slots = k.cabin.slots; cards = cards }) }) c.take.ensures.left
    ∙ ap (λ (cards : Cards). record k { cabin = record { slots = left_from (slot_with k.cabin.slots.seats c.args.keep.which) c.args.keep.at.second k.cabin.slots; cards = cards } }) (session-twice c.args.keep.which None None k.cabin.cards) in (
      Fell,
      fell-brought c.args.keep.which c.args.keep.kept c.args.keep.at k c.tear.new.self c.args.marks.now c.args.breaks.now (g.M.Medium.state c.args.unit.now) (g.M.Medium.state c.tear.new.unit) (g.C.Chip.state c.args.card.now) (g.C.Chip.state c.keep_on_card.new.card)
          (is_err c.tear.result) c.in-Some.accepted c.tear.new.breaks (sym c.in-Some.ensures.taken) cause keeper c.tear.ensures.torn.told (λ well. ok_gives c.tear.result c.tear.ensures.leaves.noted well),
      c.tear.ensures.leaves.moments,
      booked-fell c.args.keep.which c.args.keep.kept k.cabin.cards (g.M.Medium.state c.args.unit.now) (g.C.Chip.state c.args.card.now) c.tear.new.self.cabin.cards (g.C.Chip.state c.keep_on_card.new.card) (g.C.Chip.card c.args.card.now) c.in-Some.accepted
          (g.met.M.Medium.coherent c.args.unit.now) (g.met.C.Chip.coherent c.args.card.now) (g.met.C.Chip.coherent c.keep_on_card.new.card) (sym c.in-Some.ensures.taken) c.requires.card c.requires.may.behind c.keep_on_card.ensures.keeps.keeps.moments
          (ap (λ (q : Keeper). session_of q.cabin.cards c.args.keep.which) keeper ∙ session-set c.args.keep.which None k.cabin.cards),
    )

pub returns-then-is_err-clause-stands : goal.returns-then-is_err-clause-stands
returns-then-is_err-clause-stands g c = λ from leaving le h.
    let k = c.args.self.now in
    let cabin =
    ap (λ (q : Keeper). q.cabin) c.tear.ensures.torn.keeper ∙ ap (λ (cards : Cards). torn_out c.args.keep.which c.args.keep.at.second (record { slots = k.cabin.slots; cards = cards })) c.take.ensures.left
    ∙ ap (λ (cards : Cards). record { slots = left_from (slot_with k.cabin.slots.seats c.args.keep.which) c.args.keep.at.second k.cabin.slots; cards = cards }) (session-twice c.args.keep.which None None k.cabin.cards) in
    subst (λ (b : Cabin). CabinIsSound (c.args.keep.kept.entry.minute + 1) leaving b) (sym cabin)
    (torn-stands k.cabin c.args.keep.which c.args.keep.at.second (c.args.keep.kept.entry.minute + 1) leaving c.requires.may.minute (stands-later from (c.args.keep.kept.entry.minute + 1) le leaving k.cabin h))

-- ---- the card has its entry

pub returns-clause-brought : goal.returns-clause-brought
returns-clause-brought g c =
    let k = c.args.self.now in
    let well : is_err c.keep_on_card.result ≡ false = sym c.is_err.ensures.value ∙ c.if-is_err.false in
    let cause = subst (λ (b : Bool). HasCause (g.C.Chip.state c.args.card.now) (g.C.Chip.state c.keep_on_card.new.card) b) well c.keep_on_card.ensures.card.cause in
    let after : Accepted = record { session = c.keep_on_card.new.session; held = c.keep_on_card.new.held; entry = c.in-Some.accepted.entry; noted = c.in-Some.accepted.noted } in
    let cards = c.set_session.ensures ∙ ap (λ (q : Cards). with_session c.args.keep.which (Some after) q) c.take.ensures.left ∙ session-twice c.args.keep.which None (Some after) k.cabin.cards in
    let held = ok_gives c.keep_on_card.result c.keep_on_card.ensures.keeps.session.held well in
    let last = ok_gives c.keep_on_card.result c.keep_on_card.ensures.keeps.session.last well in (
      Has after c.clock.result,
      has-brought c.args.keep.which c.args.keep.kept c.args.keep.at k (record k { cabin = record { slots = k.cabin.slots; cards = c.set_session.new.self } }) c.args.marks.now c.args.breaks.now
          (g.M.Medium.state c.args.unit.now) (g.M.Medium.state c.args.unit.now) (g.C.Chip.state c.args.card.now) (g.C.Chip.state c.keep_on_card.new.card)
          c.in-Some.accepted after c.clock.result c.add.new.self (sym c.in-Some.ensures.taken)
          (record { application = c.keep_on_card.ensures.keeps.session.same.0; registration = c.keep_on_card.ensures.keeps.session.same.1; minute = last.0; odometer = last.1; held = held; entry = refl; noted = refl })
          c.clock.ensures cause (ap (λ (q : Cards). record k { cabin = record { slots = k.cabin.slots; cards = q } }) cards)
          (c.add.ensures ∙ ap (λ (d : Device). with_lines (record { device = d; minute = c.args.keep.kept.entry.minute; clock = c.clock.result } ∷ []) c.args.marks.now) c.device_of.ensures),
      starts (g.M.Medium.state c.args.unit.now) (IsNotingFault (Has after c.clock.result) c.args.keep.at.second (crew_of (record { slots = k.cabin.slots; cards = c.set_session.new.self }))),
      booked-has c.args.keep.which c.args.keep.kept k.cabin.cards (g.M.Medium.state c.args.unit.now) (g.C.Chip.state c.args.card.now) c.set_session.new.self (g.C.Chip.state c.keep_on_card.new.card) (g.C.Chip.card c.args.card.now) c.in-Some.accepted
          (g.met.M.Medium.coherent c.args.unit.now) (g.met.C.Chip.coherent c.args.card.now) (g.met.C.Chip.coherent c.keep_on_card.new.card) (sym c.in-Some.ensures.taken) c.requires.card c.requires.may.behind c.keep_on_card.ensures.keeps.keeps.moments
          after c.clock.result (ap (λ (q : Cards). session_of q c.args.keep.which) cards ∙ session-set c.args.keep.which (Some after) k.cabin.cards) cause.works c.keep_on_card.ensures.keeps.session.same.0 last.0 c.keep_on_card.ensures.keeps.session.same.1 last.1 held
          (ok_gives c.keep_on_card.result c.keep_on_card.ensures.keeps.keeps.is well) (ok_gives c.keep_on_card.result c.keep_on_card.ensures.card.settled well) c.keep_on_card.ensures.most c.clock.ensures,
    )

pub returns-clause-stands : goal.returns-clause-stands
returns-clause-stands g c = λ from leaving le h.
    let k = c.args.self.now in
    let m : ℕ = c.args.keep.kept.entry.minute in
    let well : is_err c.keep_on_card.result ≡ false = sym c.is_err.ensures.value ∙ c.if-is_err.false in
    let after : Accepted = record { session = c.keep_on_card.new.session; held = c.keep_on_card.new.held; entry = c.in-Some.accepted.entry; noted = c.in-Some.accepted.noted } in
    let cards = c.set_session.ensures ∙ ap (λ (q : Cards). with_session c.args.keep.which (Some after) q) c.take.ensures.left ∙ session-twice c.args.keep.which None (Some after) k.cabin.cards in
    let last = ok_gives c.keep_on_card.result c.keep_on_card.ensures.keeps.session.last well in
    let now : after.session.minute ≡ m = last.0 in
    subst (λ (q : Cards). CabinIsSound (m + 1) leaving (record { slots = k.cabin.slots; cards = q })) (sym cards)
    (kept-stands from m c.args.keep.which c.in-Some.accepted after k.cabin leaving le (sym c.in-Some.ensures.taken) c.keep_on_card.ensures.keeps.session.same.0 (omega (arith, now)) (begun_holds (m + 1) m c.in-Some.accepted.held after (ok_gives c.keep_on_card.result c.keep_on_card.ensures.keeps.session.held well)) h)

-- ---- a card without a session is as it was

pub returns-then-is_err-clause-bare : goal.returns-then-is_err-clause-bare
returns-then-is_err-clause-bare g c = λ none.
    let taken : Some c.in-Some.accepted ≡ session_of c.args.self.now.cabin.cards c.args.keep.which = c.in-Some.ensures.taken in
    absurd (cc)

pub returns-clause-bare : goal.returns-clause-bare
returns-clause-bare g c = λ none.
    let taken : Some c.in-Some.accepted ≡ session_of c.args.self.now.cabin.cards c.args.keep.which = c.in-Some.ensures.taken in
    absurd (cc)

-- ---- what holds of the devices after any calls

pub returns-in_default-clause-behind : goal.returns-in_default-clause-behind
returns-in_default-clause-behind g c = record {
  cause = first_of (search rules, grind (arith, common_steps));
  ready = first_of (search rules, grind (arith, common_steps));
  rows = first_of (search rules, grind (arith, common_steps));
  card = first_of (search rules, grind (arith, common_steps));
  size = first_of (search rules, grind (arith, common_steps));
}

pub returns-in_default-clause-goes : goal.returns-in_default-clause-goes
returns-in_default-clause-goes g c = record {
  keeps = first_of (search rules, grind (arith, common_steps));
  tells = first_of (search rules, grind (arith, common_steps));
  broken = first_of (search rules, grind (arith, common_steps));
  later = state-same (g.C.Chip.state c.args.card.now);
}

-- ---- each card that has its row has it still

pub returns-in_default-take-clause-behind : goal.returns-in_default-take-clause-behind
returns-in_default-take-clause-behind g c = record {
  cause = first_of (search rules, grind (arith, common_steps));
  ready = first_of (search rules, grind (arith, common_steps));
  rows =
      λ card h.
      let U = g.M.Medium.state c.args.unit.now in
      subst (λ (q : Cards). HasItsRow q U card) (sym c.take.ensures.left) (row-beside c.args.keep.which None c.args.self.now.cabin.cards U card h);
  card =
      let k = c.args.self.now in
      let gone : session_of k.cabin.cards c.args.keep.which ≡ None = sym c.take.ensures.taken ∙ none-there c.take.result c.in_default-take.not-Some in
      let same : c.take.new.self ≡ k.cabin.cards = c.take.ensures.left ∙ session-unset c.args.keep.which k.cabin.cards gone in
      subst (λ (q : Cards). CardMayBeCalled (known_of q c.args.keep.which) (g.C.Chip.card c.args.card.now) (g.C.Chip.state c.args.card.now)) (sym same) c.requires.card;
  size = first_of (search rules, grind (arith, common_steps));
}

pub returns-in_default-take-clause-goes : goal.returns-in_default-take-clause-goes
returns-in_default-take-clause-goes g c = record {
  keeps = first_of (search rules, grind (arith, common_steps));
  tells = first_of (search rules, grind (arith, common_steps));
  broken = first_of (search rules, grind (arith, common_steps));
  later = state-same (g.C.Chip.state c.args.card.now);
}

pub returns-then-is_err-clause-behind : goal.returns-then-is_err-clause-behind
returns-then-is_err-clause-behind g c = record {
  cause = c.tear.ensures.behind.cause;
  ready = c.tear.ensures.behind.ready;
  rows =
      λ card h.
      let U = g.M.Medium.state c.args.unit.now in
      c.tear.ensures.behind.rows card (subst (λ (q : Cards). HasItsRow q U card) (sym c.take.ensures.left) (row-beside c.args.keep.which None c.args.self.now.cabin.cards U card h));
  card = let torn = c.tear.ensures.torn.keeper in first_of (search rules, grind (arith, common_steps));
  size = first_of (search rules, grind (arith, common_steps));
}

pub returns-then-is_err-clause-goes : goal.returns-then-is_err-clause-goes
returns-then-is_err-clause-goes g c = record {
  keeps = first_of (search rules, grind (arith, common_steps));
  tells = first_of (search rules, grind (arith, common_steps));
  broken = let torn = c.tear.ensures.torn.keeper in first_of (search rules, grind (arith, common_steps));
  later = state-by (g.C.Chip.state c.args.card.now) (g.C.Chip.state c.keep_on_card.new.card) (is_err c.keep_on_card.result) c.keep_on_card.ensures.keeps.keeps.moments.later c.keep_on_card.ensures.card.cause;
}

pub returns-clause-behind : goal.returns-clause-behind
returns-clause-behind g c = record {
  cause = first_of (search rules, grind (arith, common_steps));
  ready = first_of (search rules, grind (arith, common_steps));
  rows =
      λ card h.
      let U = g.M.Medium.state c.args.unit.now in
      let k = c.args.self.now in
      let after : Accepted = record { session = c.keep_on_card.new.session; held = c.keep_on_card.new.held; entry = c.in-Some.accepted.entry; noted = c.in-Some.accepted.noted } in
      let cards = c.set_session.ensures ∙ ap (λ (q : Cards). with_session c.args.keep.which (Some after) q) c.take.ensures.left ∙ session-twice c.args.keep.which None (Some after) k.cabin.cards in
      subst (λ (q : Cards). HasItsRow q U card) (sym cards) (row-beside c.args.keep.which (Some after) k.cabin.cards U card h);
  card = first_of (search rules, grind (arith, common_steps));
  size = first_of (search rules, grind (arith, common_steps));
}

pub returns-clause-goes : goal.returns-clause-goes
returns-clause-goes g c = record {
  keeps = first_of (search rules, grind (arith, common_steps));
  tells = first_of (search rules, grind (arith, common_steps));
  broken = first_of (search rules, grind (arith, common_steps));
  later = state-by (g.C.Chip.state c.args.card.now) (g.C.Chip.state c.keep_on_card.new.card) (is_err c.keep_on_card.result) c.keep_on_card.ensures.keeps.keeps.moments.later c.keep_on_card.ensures.card.cause;
}

-- ---- its writes

pub returns-in_default-clause-most : goal.returns-in_default-clause-most
returns-in_default-clause-most g c = (omega arith, omega arith)

pub returns-in_default-take-clause-most : goal.returns-in_default-take-clause-most
returns-in_default-take-clause-most g c = (omega arith, omega arith)

pub returns-then-is_err-clause-most : goal.returns-then-is_err-clause-most
returns-then-is_err-clause-most g c =
    let few = hands-few c.in-Some.accepted c.args.keep.kept.entry.minute (subst (λ (o : Option Accepted). IfSome o (MayKeepAt c.args.keep.kept.entry.minute)) (sym c.in-Some.ensures.taken) c.requires.may.behind) in
    (c.tear.ensures.most, omega (arith, few, c.keep_on_card.ensures.most))

pub returns-clause-most : goal.returns-clause-most
returns-clause-most g c =
    let few = hands-few c.in-Some.accepted c.args.keep.kept.entry.minute (subst (λ (o : Option Accepted). IfSome o (MayKeepAt c.args.keep.kept.entry.minute)) (sym c.in-Some.ensures.taken) c.requires.may.behind) in
    (omega arith, omega (arith, few, c.keep_on_card.ensures.most))

pub tear-requires-clause-may : goal.tear-requires-clause-may
tear-requires-clause-may g c = record {
  minute = first_of (search rules, grind (arith, common_steps));
  second = first_of (search rules, grind (arith, common_steps));
  room = first_of (search rules, grind (arith, common_steps));
}
