use Rattle.std.proofs.lemmas.Grind.{common_steps}
use Rattle.std.proofs.Common.{rules, arith, inl, ◌≡◌, ◌∙◌, ℕ, true, None, Ok, refl, ap, sym, subst, [], ◌∷◌}
use Rattle.std.specs.Prelude.{is_err, Result, Err}
use Rattle.card_layout.specs.declared.files.Application.{Application}
use Rattle.card_layout.specs.Application.{place_of_field}
use Rattle.card_layout.proofs.Sizes.{largest_image}
use Rattle.card_validity.specs.card_image.Own.{own_sizes}
use Rattle.run_minutes.specs.run_promise.Found.{found_of}
use Rattle.run_crew.specs.declared.cabin.Cabin.{Cabin}
use Rattle.run_crew.specs.Cards.{known_of}
use Rattle.run_crew.specs.Cabin.{with_sizes_of, torn_out}
use Rattle.run_minutes.specs.Keeping.{CardMayBeCalled, HasItsRow}
use Rattle.run_minutes.proofs.Units.{row-measured}
use Rattle.run_insertion.specs.Entering.{Unread, Unsized, Judged, Unfit, APPLICATION_FILE, outcome_by}
use Rattle.run_insertion.specs.Noted.{HasNoted, IsOnUnit, IsComing, fault_of, notes_by}
use Rattle.run_insertion.specs.Entered.{IsMeasured, IsJudgedSo, HasEntered}
use Rattle.device_calls.specs.device_rule.Rules.{Out}
use Rattle.run_minutes.specs.run_devices.Told.{with_standing}
use Rattle.run_minutes.proofs.run_devices.Putting.{out-now}
use Rattle.run_insertion.specs.declared.waking.TheConstants.{UNTOLD}
use Rattle.run_insertion.specs.Told.{BooksJudged, BooksEntered}
use Rattle.run_insertion.proofs.Carried.{noted-carried, found-fallen}
use Rattle.run_insertion.proofs.Opening.{does-read}
use Rattle.run_insertion.proofs.Booked.{torn-carried, still-bare, woken-may, woken-untouched, woken-timed, woken-known}
use Rattle.run_insertion.proofs.InTime.{woken-early}
use Rattle.run_insertion.proofs.Notes.{fault-noted}
use Rattle.run_insertion.proofs.CardBrought.{sits-works}
use Rattle.run_insertion.proofs.Judged.{entered-judged, entered-unsized, entered-unread}
use Rattle.run_insertion.proofs.Seats.{unsized-ready}
use Rattle.run_minutes.proofs.Later.{state-then, state-revived}
use Rattle.run_minutes.proofs.Calm.{card-told, card-fell, card-first}
use Rattle.run_outcome.specs.Lines.{Listed}
use Rattle.log_model.specs.declared.lines.Break.{Break}
use Rattle.run_outcome.specs.declared.outcome.Outcome.{Outcome}
use Rattle.run_insertion.proofs.entering.accept.Goals as goal

-- ---- it failed before it told its sizes

pub returns-in_default-clause-entered : goal.returns-in_default-clause-entered
returns-in_default-clause-entered g c =
    let k = c.args.keeper.now in
    let e = c.args.beside.entering in
    let U = g.M.Medium.state c.args.unit.now in
    let W = g.M.Medium.state c.tear.new.unit in
    let Z = g.D.Chip.state c.args.beside.others.now in
    let X = g.C.Chip.state c.args.card.now in
    let M = g.C.Chip.state c.wake.new.card in
    let keeper = c.tear.ensures.torn.keeper ∙ ap (λ (b : Cabin). record k { cabin = torn_out e.which e.at.second b }) c.measure.ensures.kept in
    let notes = subst (λ (b : Cabin). HasNoted IsOnUnit IsComing (fault_of e b ∷ []) (is_err c.tear.result) U W) c.measure.ensures.kept
    (fault-noted e (record k { cabin = c.measure.new.self }) c.tear.new.self c.tear.result c.tear.ensures.torn.keeper c.tear.ensures.leaves.noted c.tear.ensures.leaves.moments) in (
      Unread,
      entered-unread e k c.args.noted.now c.args.outcome.now U X M (g.met.C.Chip.coherent c.wake.new.card) c.wake.ensures.revived.leaves (g.met.C.Chip.coherent c.args.card.now) c.in_default.ensures.revived.cause
          (is_err c.tear.result) c.tear.new.self c.tear.new.breaks W keeper c.tear.ensures.torn.told notes,
      λ f w m named low. let may = woken-may e k (Err UNTOLD) U X M Z (g.met.M.Medium.coherent c.args.unit.now) (g.met.C.Chip.coherent c.args.card.now) c.wake.ensures.revived.leaves c.wake.ensures.revived.clock c.requires.may.come.bare f w m in record {
        taken = torn-carried f (with_standing e.which Out w) e (record k { cabin = with_sizes_of e.which (Err UNTOLD) k.cabin }) c.tear.new.self U W M Z (is_err c.tear.result) (still-bare e k (Err UNTOLD) U X M Z (g.met.M.Medium.coherent c.args.unit.now) (g.met.C.Chip.coherent c.args.card.now) c.wake.ensures.revived.leaves c.wake.ensures.revived.clock c.requires.may.come.bare) may.found (g.met.M.Medium.coherent c.args.unit.now) may.powered keeper c.tear.ensures.leaves.journal c.tear.ensures.behind.cause;
        found = found-fallen true f e (record k { cabin = with_sizes_of e.which (Err UNTOLD) k.cabin }) c.tear.new.self keeper may.found;
        told = tt;
        timed = λ valid. woken-timed e k (Err UNTOLD) U X M Z (g.met.M.Medium.coherent c.args.unit.now) (g.met.C.Chip.coherent c.args.card.now) c.wake.ensures.revived.leaves c.wake.ensures.revived.clock c.requires.may.come.bare f w m;
        untouched = λ same. inl (woken-untouched e k (Err UNTOLD) U X M Z (g.met.M.Medium.coherent c.args.unit.now) (g.met.C.Chip.coherent c.args.card.now) c.wake.ensures.revived.leaves c.wake.ensures.revived.clock c.requires.may.come.bare f w m same);
        opens = λ valid. tt;
      },
    )

-- ---- it goes by its sizes

pub returns-in-Ok-sizes-clause-entered : goal.returns-in-Ok-sizes-clause-entered
returns-in-Ok-sizes-clause-entered g c =
    let k = c.args.keeper.now in
    let e = c.args.beside.entering in
    let app = c.in-Ok-sizes.app in
    let U = g.M.Medium.state c.args.unit.now in
    let W = g.M.Medium.state c.accept_by.new.unit in
    let Z = g.D.Chip.state c.args.beside.others.now in
    let X = g.C.Chip.state c.args.card.now in
    let M = g.C.Chip.state c.wake.new.card in
    let Y = g.C.Chip.state c.accept_by.new.card in
    let failed = is_err c.accept_by.result in
    let ended = c.accept_by.ensures.ended in
    let measured_ = subst (λ (r : Result Application ℕ). IsMeasured r (g.C.Chip.card c.wake.new.card) M) c.in-Ok-sizes.is c.in-Ok.ensures.measured in
    let kept = c.measure-2.ensures.kept ∙ ap (λ (s : Result Application ℕ). with_sizes_of e.which s k.cabin) c.in-Ok-sizes.is in
    let j = subst (λ (b : Cabin). IsJudgedSo app e failed (record k { cabin = b }) c.accept_by.new.keeper c.args.noted.now c.accept_by.new.noted c.args.outcome.now c.accept_by.new.outcome U W M Y ended.0) kept ended.1 in (
      Judged app ended.0,
      entered-judged e k c.args.noted.now c.args.outcome.now U X M (g.met.C.Chip.coherent c.wake.new.card) c.wake.ensures.revived.leaves c.wake.ensures.revived.clock c.in-Ok.ensures.revived.cause app failed c.accept_by.new.keeper
          c.accept_by.new.noted c.accept_by.new.outcome W Y measured_.2 (let most = largest_image app measured_.0.good in let size = measured_.0.size in omega (arith, most, size)) (g.met.C.Chip.coherent c.accept_by.new.card) ended.0
          (sits-works e (record k { cabin = with_sizes_of e.which (Ok app) k.cabin }) c.accept_by.new.keeper c.args.noted.now ended.0 (g.C.Chip.card c.accept_by.new.card) Y j.left.keeper c.accept_by.ensures.behind.entered.card) j,
      λ f w m named low. woken-known e k (Ok app) U X M Z (g.met.M.Medium.coherent c.args.unit.now) (g.met.C.Chip.coherent c.args.card.now) c.wake.ensures.revived.leaves c.wake.ensures.revived.clock c.requires.may.come.bare ended.0 failed c.accept_by.new.keeper W Y f w m ((subst (λ (b : Cabin). BooksJudged ended.0 e failed (record k { cabin = b }) c.accept_by.new.keeper U W M Y Z) kept ended.2) f (with_standing e.which Out w) (woken-may e k (Ok app) U X M Z (g.met.M.Medium.coherent c.args.unit.now) (g.met.C.Chip.coherent c.args.card.now) c.wake.ensures.revived.leaves c.wake.ensures.revived.clock c.requires.may.come.bare f w m) named (out-now e.which w) low),
    )

-- ---- a field of them is bad

pub returns-in-Err-clause-entered : goal.returns-in-Err-clause-entered
returns-in-Err-clause-entered g c =
    let k = c.args.keeper.now in
    let e = c.args.beside.entering in
    let o = c.args.outcome.now in
    let field = c.in-Err.field in
    let U = g.M.Medium.state c.args.unit.now in
    let W = g.M.Medium.state c.refuse.new.unit in
    let Z = g.D.Chip.state c.args.beside.others.now in
    let X = g.C.Chip.state c.args.card.now in
    let M = g.C.Chip.state c.wake.new.card in
    let failed = is_err c.refuse.result in
    let kept = c.measure-2.ensures.kept ∙ ap (λ (s : Result Application ℕ). with_sizes_of e.which s k.cabin) c.in-Err.is in
    let bad = subst (λ (s : Result Application ℕ). IsMeasured s (g.C.Chip.card c.wake.new.card) M) c.in-Err.is c.in-Ok.ensures.measured in
    let told = subst (λ (t : ℕ). c.refuse.new.outcome ≡ outcome_by (Unfit APPLICATION_FILE t) e o) c.place_of_field-place.ensures c.refuse.ensures.told in
    let notes = subst (λ (b : Cabin). HasNoted IsOnUnit IsComing (notes_by (Unfit APPLICATION_FILE (place_of_field field)) e c.args.noted.now b) failed U W) kept c.refuse.ensures.notes in
    let r = subst (λ (b : Cabin). HasEntered e failed k (record k { cabin = b }) c.args.noted.now c.args.noted.now o c.refuse.new.outcome U W X M (Unsized field) × BooksEntered (Unsized field) e failed k (record k { cabin = b }) U W X M Z) (sym kept) (
      entered-unsized e k c.args.noted.now o U X M (g.met.C.Chip.coherent c.wake.new.card) c.wake.ensures.revived.leaves c.in-Ok.ensures.revived.cause field failed c.refuse.new.outcome W bad told notes,
      λ f w m named low. let may = woken-may e k (Err field) U X M Z (g.met.M.Medium.coherent c.args.unit.now) (g.met.C.Chip.coherent c.args.card.now) c.wake.ensures.revived.leaves c.wake.ensures.revived.clock c.requires.may.come.bare f w m in record {
        taken = noted-carried e.which f (with_standing e.which Out w) (with_sizes_of e.which (Err field) k.cabin).cards U W M Z failed may.found (g.met.M.Medium.coherent c.args.unit.now) may.powered c.refuse.ensures.stands.journal c.refuse.ensures.stands.cause;
        found = may.found;
        told = tt;
        timed = λ valid. woken-timed e k (Err field) U X M Z (g.met.M.Medium.coherent c.args.unit.now) (g.met.C.Chip.coherent c.args.card.now) c.wake.ensures.revived.leaves c.wake.ensures.revived.clock c.requires.may.come.bare f w m;
        untouched = λ same. inl (woken-untouched e k (Err field) U X M Z (g.met.M.Medium.coherent c.args.unit.now) (g.met.C.Chip.coherent c.args.card.now) c.wake.ensures.revived.leaves c.wake.ensures.revived.clock c.requires.may.come.bare f w m same);
        opens = λ valid. does-read (own_sizes (found_of f e.which).image) X M c.wake.ensures.revived.leaves;
      },
    ) in
    (Unsized field, r.0, r.1)

-- ---- the clocks

pub returns-in_default-clause-clock : goal.returns-in_default-clause-clock
returns-in_default-clause-clock g c = c.tear.ensures.leaves.journal.later

pub returns-in-Err-clause-clock : goal.returns-in-Err-clause-clock
returns-in-Err-clause-clock g c = c.refuse.ensures.stands.journal.later

-- ---- a card that was written told of no later time

pub returns-in_default-clause-in_time : goal.returns-in_default-clause-in_time
returns-in_default-clause-in_time g c = inl c.wake.ensures.revived.leaves

pub returns-in-Ok-sizes-clause-in_time : goal.returns-in-Ok-sizes-clause-in_time
returns-in-Ok-sizes-clause-in_time g c = woken-early c.args.beside.entering (g.C.Chip.state c.args.card.now) (g.C.Chip.state c.wake.new.card) (g.C.Chip.state c.accept_by.new.card) (g.met.C.Chip.coherent c.wake.new.card) c.wake.ensures.revived.leaves c.accept_by.ensures.in_time

pub returns-in-Err-clause-in_time : goal.returns-in-Err-clause-in_time
returns-in-Err-clause-in_time g c = inl c.wake.ensures.revived.leaves

-- ---- where no tear of a failed call is told no card has broken down

pub returns-in_default-clause-behind : goal.returns-in_default-clause-behind
returns-in_default-clause-behind g c = record {
  entered = record {
    ready = first_of (search rules, grind (arith, common_steps));
    rows =
        λ card h.
        let U = g.M.Medium.state c.args.unit.now in
        c.tear.ensures.behind.rows card (subst (λ (b : Cabin). HasItsRow b.cards U card) (sym c.measure.ensures.kept) (row-measured c.args.beside.entering.which (Err UNTOLD) c.args.keeper.now.cabin.cards U card h));
    stands = λ from le s. c.tear.ensures.stands from None (c.measure.ensures.stands from None s);
    cause = first_of (search rules, grind (arith, common_steps));
    card = first_of (search rules, grind (arith, common_steps));
    size = first_of (search rules, grind (arith, common_steps));
  };
  row = first_of (search rules, grind (arith, common_steps));
}

pub returns-in_default-clause-goes : goal.returns-in_default-clause-goes
returns-in_default-clause-goes g c = record {
  card = record {
    later = let same = c.wake.ensures.revived.clock in state-revived (g.C.Chip.state c.args.card.now) (g.C.Chip.state c.wake.new.card) _ (omega (arith, same)) c.in_default.ensures.revived.cause;
    calm = card-fell c.args.beside.entering.slot c.args.beside.entering.at (ap (λ (l : Listed Break). l.items) c.tear.ensures.torn.told) c.in_default.ensures.revived.cause.breakdowns c.in_default.ensures.revived.cause.once;
  };
  most = let same = c.wake.ensures.revived.clock in let last = c.tear.ensures.most in (omega (arith, last), omega (arith, same));
}

pub returns-in-Ok-sizes-clause-behind : goal.returns-in-Ok-sizes-clause-behind
returns-in-Ok-sizes-clause-behind g c = record {
  entered = record {
    ready = first_of (search rules, grind (arith, common_steps));
    rows =
        λ card h.
        let U = g.M.Medium.state c.args.unit.now in
        c.accept_by.ensures.behind.entered.rows card (subst (λ (b : Cabin). HasItsRow b.cards U card) (sym c.measure-2.ensures.kept) (row-measured c.args.beside.entering.which c.in-Ok.sizes c.args.keeper.now.cabin.cards U card h));
    stands =
        λ from le s.
        c.accept_by.ensures.behind.entered.stands from le (c.measure-2.ensures.stands from None s);
    cause = first_of (search rules, grind (arith, common_steps));
    card = first_of (search rules, grind (arith, common_steps));
    size = first_of (search rules, grind (arith, common_steps));
  };
  row = first_of (search rules, grind (arith, common_steps));
}

pub returns-in-Ok-sizes-clause-goes : goal.returns-in-Ok-sizes-clause-goes
returns-in-Ok-sizes-clause-goes g c = record {
  card = record {
    later = let same = c.wake.ensures.revived.clock in state-then (g.C.Chip.state c.args.card.now) (g.C.Chip.state c.wake.new.card) (g.C.Chip.state c.accept_by.new.card) (state-revived (g.C.Chip.state c.args.card.now) (g.C.Chip.state c.wake.new.card) _ (omega (arith, same)) c.in-Ok.ensures.revived.cause) c.accept_by.ensures.goes.card.later;
    calm = card-first (g.C.Chip.state c.args.card.now) (g.C.Chip.state c.wake.new.card) (g.C.Chip.state c.accept_by.new.card) (c.in-Ok.ensures.revived.cause.unbroken refl) c.accept_by.ensures.goes.card.calm;
  };
  most = let same = c.wake.ensures.revived.clock in let last = c.accept_by.ensures.goes.most.1 in (c.accept_by.ensures.goes.most.0, omega (arith, same, last));
}

pub returns-in-Err-clause-behind : goal.returns-in-Err-clause-behind
returns-in-Err-clause-behind g c = record {
  entered = record {
    ready = first_of (search rules, grind (arith, common_steps));
    rows =
        λ card h.
        let U = g.M.Medium.state c.args.unit.now in
        c.refuse.ensures.stands.rows card (subst (λ (b : Cabin). HasItsRow b.cards U card) (sym c.measure-2.ensures.kept) (row-measured c.args.beside.entering.which c.in-Ok.sizes c.args.keeper.now.cabin.cards U card h));
    stands = λ from le s. c.measure-2.ensures.stands from None s;
    cause = first_of (search rules, grind (arith, common_steps));
    card =
        let kept = c.measure-2.ensures.kept ∙ ap (λ (s : Result Application ℕ). with_sizes_of c.args.beside.entering.which s c.args.keeper.now.cabin) c.in-Err.is in
        subst (λ (b : Cabin). CardMayBeCalled (known_of b.cards c.args.beside.entering.which) (g.C.Chip.card c.wake.new.card) (g.C.Chip.state c.wake.new.card)) (sym kept)
        (unsized-ready c.args.beside.entering.which c.args.keeper.now.cabin c.in-Err.field (g.C.Chip.card c.wake.new.card) (g.C.Chip.state c.wake.new.card) c.requires.may.come.bare);
    size = first_of (search rules, grind (arith, common_steps));
  };
  row = first_of (search rules, grind (arith, common_steps));
}

pub returns-in-Err-clause-goes : goal.returns-in-Err-clause-goes
returns-in-Err-clause-goes g c = record {
  card = record {
    later = let same = c.wake.ensures.revived.clock in state-revived (g.C.Chip.state c.args.card.now) (g.C.Chip.state c.wake.new.card) _ (omega (arith, same)) c.in-Ok.ensures.revived.cause;
    calm = card-told [] (ap (λ (o : Outcome). o.breaks.items) c.refuse.ensures.told) refl (c.in-Ok.ensures.revived.cause.unbroken refl);
  };
  most = let same = c.wake.ensures.revived.clock in let last = c.refuse.ensures.stands.most in (omega (arith, last), omega (arith, same));
}

-- ---- its writes

-- ---- what its judging asks

pub accept_by-requires-clause-may : goal.accept_by-requires-clause-may
accept_by-requires-clause-may g c = record {
  come = record {
    seat = first_of (search rules, grind (arith, common_steps));
    elsewhere = first_of (search rules, grind (arith, common_steps));
    minute = first_of (search rules, grind (arith, common_steps));
    second = c.requires.may.come.second;
    fits = c.requires.may.come.fits;
    bare = first_of (search rules, grind (arith, common_steps));
    break_room = c.requires.may.come.break_room;
    find_room = c.requires.may.come.find_room;
  };
  late = c.requires.may.late;
  last = c.requires.may.last;
}

pub accept_by-requires-clause-card : goal.accept_by-requires-clause-card
accept_by-requires-clause-card g c = record {
  goes = record {
    sizes = first_of (search rules, grind (arith, common_steps));
    port = first_of (search rules, grind (arith, common_steps));
    works = first_of (search rules, grind (arith, common_steps));
  };
  told = first_of (search rules, grind (arith, common_steps));
  sized = first_of (search rules, grind (arith, common_steps));
}

pub tear-requires-clause-may : goal.tear-requires-clause-may
tear-requires-clause-may g c = record {
  minute = first_of (search rules, grind (arith, common_steps));
  second = first_of (search rules, grind (arith, common_steps));
  room = first_of (search rules, grind (arith, common_steps));
}

pub refuse-requires-clause-may : goal.refuse-requires-clause-may
refuse-requires-clause-may g c = record {
  second = first_of (search rules, grind (arith, common_steps));
  room = first_of (search rules, grind (arith, common_steps));
}
