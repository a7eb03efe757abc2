use Rattle.std.proofs.Common.{◌≡◌, ◌∙◌, ℕ, ◌+◌, ◌-◌, ◌*◌, ◌/◌, true, false, length, refl, ap, sym, subst, arith, ◌∷◌, [], ◌<◌, All, Bool, Option, ◌≤◌}
use Rattle.std.specs.Prelude.{is_err, None}
use Rattle.unit_model.specs.minute_model.Span.{ungiven_of, fed_many}
use Rattle.minute_rules.proofs.GoingOn.{owing-few}
use Rattle.log_model.specs.declared.lines.Break.{Break}
use Rattle.run_outcome.specs.Lines.{Listed, cut_at}
use Rattle.run_outcome.specs.declared.outcome.Outcome.{Outcome}
use Rattle.run_minutes.specs.Keeping.{with_lines}
use Rattle.run_minutes.specs.Minutes.{kept_after}
use Rattle.run_minutes.specs.Writes.{WroteAtMost}
use Rattle.run_acts.specs.declared.run.Run.{Run}
use Rattle.run_acts.specs.declared.run.Power.{Power}
use Rattle.run_acts.specs.declared.run.Power.TheVariants.{Lit, Lost}
use Rattle.run_acts.specs.Power.{is_lit, passed, cut_run}
use Rattle.minute_rules.specs.Kept.{Kept as Minutes}
use Rattle.run_crew.specs.Cabin.{with_power_lost, CabinIsSound}
use Rattle.run_minutes.proofs.Counts.{lines-length}
use Rattle.run_acts.specs.Going.{StandSomehow, IsBetweenSeconds, RunHasPowerAllSeated}
use Rattle.run_acts.specs.Room.{falls_of, cuts_within, waiting}
use Rattle.run_acts.proofs.Kept.{given-ended, given-rows, seats-less, owing-sum}
use Rattle.run_acts.proofs.Torn.{cut-falls}
use Rattle.run_acts.proofs.Turned.{turn-end, turn-most, turn-decides, turned-held, turned-cut, turned-lit}
use Rattle.run_acts.proofs.Room.{Spends, room-lit, room-lost}
use Rattle.run_acts.proofs.Uncut.{turn-uncut, uncut-broke, cut-broke}
use Rattle.run_minutes.specs.run_promise.Between.{devices}
use Rattle.run_acts.proofs.TurnMany.{turn-events}
use Rattle.run_minutes.proofs.Calm.{calm-more}
use Rattle.trace_model.specs.declared.Card.{Card}
use Rattle.run_acts.proofs.Due.{Decides}
use Rattle.device_calls.specs.safety_model.Safe.{Devices}
use Rattle.run_acts.specs.Evented.{EventsLitTurn}
use Rattle.run_acts.specs.Booked.{IsBookedTurn}
use Rattle.run_acts.specs.Turning.{IsLitTurn, cut_breaks, cut_where, late_moment}
use Rattle.run_acts.specs.Devices.{DevicesGoOn}
use Rattle.run_acts.specs.Keepings.{KeepsTurn}
use Rattle.run_acts.proofs.GoesOn.{kept-devices}
use Rattle.run_acts.specs.Faults.{NotesTurn}
use Rattle.run_acts.specs.Speeds.{BringsBlock}
use Rattle.run_acts.proofs.Speeds.{brings-cut, brings-on}
use Rattle.run_minutes.specs.declared.keeper.Keeper.{Keeper}
use Rattle.unit_model.specs.minute_model.declared.Minute.{Minute}
use Rattle.run_acts.proofs.turning.lit_turn.Given.{Over}
use Rattle.run_acts.proofs.turning.lit_turn.Goals.{After-as_slice, After-is_err, After-cut}
use Rattle.run_minutes.proofs.Writes.{wrote-more}
use Rattle.run_acts.proofs.turning.lit_turn.Goals as goal

-- ---- what the seconds decide

module _ (g : Over) (c : After-as_slice g) where
  abbrev lit : RunHasPowerAllSeated (c.args.run.now.next / 60) c.args.run.now (g.M.Medium.state c.args.unit.now) (g.C.Chip.card c.args.card_a.now) (g.D.Chip.card c.args.card_b.now) (g.C.Chip.state c.args.card_a.now) (g.D.Chip.state c.args.card_b.now)
  lit = c.requires.going.lit (ap is_lit c.requires.lit)

  decided : Decides (ungiven_of lit.span) (ungiven_of (fed_many lit.span c.args.stretch.speed c.args.stretch.seconds)) c.args.run.now.keeper.journal.kept c.feed-decided.result.items
  decided = turn-decides c.args.run.now lit c.args.stretch.speed c.args.stretch.seconds c.feed-decided.result.items c.requires.stretch.small (c.feed-decided.ensures.given lit.span lit.stands)

  most : ungiven_of (fed_many lit.span c.args.stretch.speed c.args.stretch.seconds) ≤ c.args.run.now.next / 60
  most = turn-most c.args.run.now lit c.args.stretch.speed c.args.stretch.seconds c.requires.stretch.minute

-- ---- what the keeping is given

pub keep_turn-kept-requires-clause-ready : goal.keep_turn-kept-requires-clause-ready
keep_turn-kept-requires-clause-ready g c = (c.requires.going.lit (ap is_lit c.requires.lit)).ready

pub keep_turn-kept-requires-clause-may : goal.keep_turn-kept-requires-clause-may
keep_turn-kept-requires-clause-may g c =
    let run = c.args.run.now in
    let p = (goal.at.keep_turn-kept-requires-clause-may g c).After-as_slice in
    let l = lit g p in
    let d = decided g p in
    let least = most g p in
    let end = ungiven_of (fed_many l.span c.args.stretch.speed c.args.stretch.seconds) in
    let count = d.count in
    let sum = owing-sum run.minutes l.span l.stands in
    let next = l.next in
    let marks = c.requires.room.marks in
    let breaks = c.requires.room.breaks in
    let early = c.requires.going.held.minute in
    let low = c.requires.going.low in
    let some = c.requires.stretch.some in
    let f = ap (λ (q : Power). cuts_within q run.next) c.requires.lit in
    let w = ap (λ (q : Power). waiting q run.minutes.owing) c.requires.lit in
    record {
      due = rw c.as_slice.ensures.value d.due;
      ended = rw c.as_slice.ensures.value (given-ended None (run.next / 60) end run l c.feed-decided.result.items d least);
      rows = rw c.as_slice.ensures.value (given-rows None (run.next / 60) end run l c.feed-decided.result.items d least);
      from = ungiven_of l.span;
      leaving = None;
      late = rw c.as_slice.ensures.value d.from;
      stands = l.cabin;
      odometer = c.requires.going.held.odometer;
      minute = omega (arith, early, some);
      second = λ none. absurd (omega (arith, low, some, none));
      marks = rw c.as_slice.ensures.value (omega (arith, count, least, sum, next, marks, f, w));
      breaks = omega (arith, breaks, f);
    }

pub keep_turn-kept-requires-clause-watch : goal.keep_turn-kept-requires-clause-watch
keep_turn-kept-requires-clause-watch g c =
    let l = c.requires.going.lit (ap is_lit c.requires.lit) in
    let low = c.requires.going.low in
    let small = c.requires.stretch.small in
    record {
      some = c.requires.stretch.some;
      low = omega (arith, low);
      within = c.requires.stretch.minute;
      fits = omega (arith, small);
      limit = l.limit;
      watches = l.watches;
      newest = l.newest;
    }

-- ---- what the keeping did

module _ (g : Over) (c : After-is_err g) where
  abbrev power : RunHasPowerAllSeated (c.args.run.now.next / 60) c.args.run.now (g.M.Medium.state c.args.unit.now) (g.C.Chip.card c.args.card_a.now) (g.D.Chip.card c.args.card_b.now) (g.C.Chip.state c.args.card_a.now) (g.D.Chip.state c.args.card_b.now)
  power = c.requires.going.lit (ap is_lit c.requires.lit)

  decides : Decides (ungiven_of power.span) (ungiven_of (fed_many power.span c.args.stretch.speed c.args.stretch.seconds)) c.args.run.now.keeper.journal.kept c.feed-decided.result.items
  decides = turn-decides c.args.run.now power c.args.stretch.speed c.args.stretch.seconds c.feed-decided.result.items c.requires.stretch.small (c.feed-decided.ensures.given power.span power.stands)

  -- the run as it was kept
  abbrev kept_run : Run
  kept_run = record c.args.run.now { minutes = c.feed-decided.new.minutes; keeper = c.keep_turn-kept.new.run.keeper; watch = c.keep_turn-kept.new.run.watch }

  abbrev IsGoingThen : Run → Type 0
  IsGoingThen run = IsBetweenSeconds (passed c.args.stretch.seconds c.args.stretch.begun run) (g.M.Medium.state c.keep_turn-kept.new.unit) (g.C.Chip.card c.keep_turn-kept.new.card_a) (g.D.Chip.card c.keep_turn-kept.new.card_b) (g.C.Chip.state c.keep_turn-kept.new.card_a) (g.D.Chip.state c.keep_turn-kept.new.card_b)

  stands : (from : ℕ) (leaving : Option Card) → All (λ (m : Minute). from ≤ m.minute) c.feed-decided.result.items → CabinIsSound from leaving c.args.run.now.keeper.cabin → (next : ℕ) → from ≤ next → kept_after c.args.run.now.keeper.journal.kept c.feed-decided.result.items < next
      → CabinIsSound next leaving c.keep_turn-kept.new.run.keeper.cabin
  stands = (rw c.as_slice.ensures.value at c.keep_turn-kept.ensures.kept).stands

  stand-somehow : StandSomehow c.keep_turn-kept.new.run.keeper.cabin
  stand-somehow = (turned-held c.args.run.now c.requires.going power c.args.stretch.speed c.args.stretch.seconds c.feed-decided.result.items c.feed-decided.new.minutes c.keep_turn-kept.new.run.keeper c.keep_turn-kept.new.run.watch decides c.keep_turn-kept.ensures.stands.unit c.keep_turn-kept.ensures.goes.odometer c.keep_turn-kept.ensures.stands.minute c.keep_turn-kept.ensures.stands.card_a c.keep_turn-kept.ensures.stands.card_b c.keep_turn-kept.ensures.goes.card_a.size c.keep_turn-kept.ensures.goes.card_b.size stands).stand

  going-cut : IsGoingThen (cut_run (c.args.run.now.next + c.args.stretch.seconds - 1) kept_run)
  going-cut = turned-cut c.args.run.now c.requires.going power c.args.stretch.speed c.args.stretch.seconds c.feed-decided.result.items c.feed-decided.new.minutes c.keep_turn-kept.new.run.keeper c.keep_turn-kept.new.run.watch decides c.keep_turn-kept.ensures.stands.unit c.keep_turn-kept.ensures.goes.odometer c.keep_turn-kept.ensures.stands.minute c.keep_turn-kept.ensures.stands.card_a c.keep_turn-kept.ensures.stands.card_b c.keep_turn-kept.ensures.goes.card_a.size c.keep_turn-kept.ensures.goes.card_b.size stands c.args.stretch.begun c.requires.stretch.some c.requires.stretch.minute c.requires.stretch.small

  going-on : is_err c.keep_turn-kept.result ≡ false → IsGoingThen kept_run
  going-on well =
      let e = c.keep_turn-kept.ensures in
      turned-lit c.args.run.now c.requires.going power c.args.stretch.speed c.args.stretch.seconds c.feed-decided.result.items c.feed-decided.new.minutes c.keep_turn-kept.new.run.keeper c.keep_turn-kept.new.run.watch decides c.keep_turn-kept.ensures.stands.unit c.keep_turn-kept.ensures.goes.odometer c.keep_turn-kept.ensures.stands.minute c.keep_turn-kept.ensures.stands.card_a c.keep_turn-kept.ensures.stands.card_b c.keep_turn-kept.ensures.goes.card_a.size c.keep_turn-kept.ensures.goes.card_b.size stands c.args.stretch.begun c.requires.lit c.requires.stretch.some c.requires.stretch.minute c.requires.stretch.small (c.feed-decided.ensures.fed power.span power.stands) (e.stands.ready well)
      (e.stands.rows well) e.goes.past (e.kept.last well ∙ ap (kept_after c.args.run.now.keeper.journal.kept) c.as_slice.ensures.value) e.goes.sessions (e.kept.watches well) (e.kept.limit well) (e.kept.newest well)

  -- what it took of the room
  spends : (new : Run) → new.keeper ≡ c.keep_turn-kept.new.run.keeper → Spends 0 (length c.feed-decided.result.items) c.args.run.now new c.args.outcome.now c.keep_turn-kept.new.outcome
  spends new keeper =
      let e = c.keep_turn-kept.ensures in
      let same = ap length c.as_slice.ensures.value in
      let marks = e.kept.marks in
      let seats = seats-less c.args.run.now.keeper.cabin.slots.seats c.keep_turn-kept.new.run.keeper.cabin.slots.seats e.goes.seats in
      let tears = e.goes.tears in
      let falls = ap (λ (k : Keeper). falls_of k.cabin) keeper in
      record {
        marks_room = e.goes.all.mark_room;
        marks = omega (arith, marks, same);
        breaks_room = e.goes.all.break_room;
        breaks = omega (arith, seats, tears, falls);
        finds = ap (λ (o : Outcome). o.finds) e.kept.kept.outcome;
        refused = ap (λ (o : Outcome). o.refused) e.kept.kept.outcome;
      }

  waits : ungiven_of power.span + c.args.run.now.minutes.owing ≡ c.args.run.now.next / 60
  waits = owing-sum c.args.run.now.minutes power.span power.stands ∙ ap (λ (m : ℕ). m / 60) power.next

  abbrev first_devices : Devices
  first_devices = devices (g.M.Medium.state c.args.unit.now) (g.C.Chip.state c.args.card_a.now) (g.D.Chip.state c.args.card_b.now)

  abbrev last_devices : Devices
  last_devices = devices (g.M.Medium.state c.keep_turn-kept.new.unit) (g.C.Chip.state c.keep_turn-kept.new.card_a) (g.D.Chip.state c.keep_turn-kept.new.card_b)

  went : DevicesGoOn (is_err c.keep_turn-kept.result) c.args.run.now.keeper.cabin.cards c.keep_turn-kept.new.run.keeper.cabin.cards first_devices last_devices
  went =
      let e = c.keep_turn-kept.ensures in
      kept-devices e.stands e.goes (λ none. ap g.C.Chip.state (e.bare.card_a none)) (λ none. ap g.D.Chip.state (e.bare.card_b none))

  -- and whether it failed, and how the run was left
  module _ (failed : Bool) (is : c.is_err.result ≡ failed) (new : Run) (after : Outcome) (run : new ≡ cut_where failed (c.args.run.now.next + c.args.stretch.seconds - 1) c.keep_turn-kept.new.run)
      (outcome : after ≡ cut_breaks failed (c.args.run.now.next + c.args.stretch.seconds - 1) c.args.stretch.begun c.keep_turn-kept.new.outcome) where
    fails : is_err c.keep_turn-kept.result ≡ failed
    fails = sym c.is_err.ensures.value ∙ is

    -- what the keeping did, of what was decided
    abbrev did : KeepsTurn c.feed-decided.result.items c.args.stretch.seconds c.args.stretch.speed (late_moment c.args.run.now.next c.args.stretch.seconds c.args.stretch.begun) failed (record c.args.run.now { minutes = c.feed-decided.new.minutes }) c.keep_turn-kept.new.run c.args.outcome.now c.keep_turn-kept.new.outcome first_devices last_devices
    did = rw c.as_slice.ensures.value at (rw fails at c.keep_turn-kept.ensures.kept)

    abbrev turned : IsLitTurn c.args.stretch.seconds c.args.stretch.speed c.args.stretch.begun c.args.run.now new c.args.outcome.now after
    turned = record {
      failed = failed;
      fed = record c.args.run.now { minutes = c.feed-decided.new.minutes };
      between = c.keep_turn-kept.new.run;
      told = c.keep_turn-kept.new.outcome;
      only = refl;
      minutes = c.feed-decided.ensures.fed;
      decided = c.feed-decided.result.items;
      given = c.feed-decided.ensures.given;
      kept = did.kept;
      run = run;
      outcome = outcome;
    }

    abbrev booked : IsBookedTurn c.args.stretch.seconds c.args.stretch.speed c.args.stretch.begun c.args.run.now new c.args.outcome.now after first_devices last_devices
    booked =
        (turned, did.reach, did.is, did.books, rw fails at went, c.keep_turn-kept.ensures.goes.odometer)

    abbrev noted : NotesTurn c.args.stretch.seconds c.args.stretch.speed c.args.stretch.begun c.args.run.now new c.args.outcome.now after (g.M.Medium.state c.args.unit.now) (g.M.Medium.state c.keep_turn-kept.new.unit)
    noted = (turned, did.noted)

    brought : BringsBlock c.args.stretch.seconds c.args.stretch.speed failed (record c.args.run.now { minutes = c.feed-decided.new.minutes }) c.keep_turn-kept.new.run (g.M.Medium.state c.args.unit.now) (g.M.Medium.state c.keep_turn-kept.new.unit)
    brought = did.block

    evented : EventsLitTurn c.args.stretch.seconds c.args.stretch.speed c.args.stretch.begun c.args.run.now new c.args.outcome.now after first_devices last_devices
    evented =
        turn-events c.args.stretch.seconds c.args.stretch.speed c.args.stretch.begun c.args.run.now new c.args.outcome.now after first_devices last_devices power c.requires.going.low c.requires.lit c.requires.stretch.some c.requires.stretch.minute c.requires.stretch.small booked
        (g.met.M.Medium.coherent c.args.unit.now) c.requires.going.held.is_unit noted.1 c.keep_turn-kept.ensures.goes.memory

-- ---- it was broken off

module _ (g : Over) (c : After-cut g) where
  abbrev told-cut : Outcome
  told-cut = record c.keep_turn-kept.new.outcome { breaks = c.cut.new.breaks }

  is-cut : told-cut ≡ cut_breaks true (c.args.run.now.next + c.args.stretch.seconds - 1) c.args.stretch.begun c.keep_turn-kept.new.outcome
  is-cut = ap (λ (b : Listed Break). record c.keep_turn-kept.new.outcome { breaks = b }) c.cut.ensures.breaks

spends-lost : (n minutes second begun : ℕ) (old kt cut : Run) (before told after : Outcome) → cut ≡ cut_run second kt → after ≡ record told { breaks = with_lines (cut_at second true begun ∷ []) told.breaks } → StandSomehow kt.keeper.cabin
    → Spends 0 minutes old kt before told → Spends 1 minutes old (passed n begun cut) before after
spends-lost n minutes second begun old kt cut before told after is same stand s =
    let falls = cut-falls second stand.0 stand.1 kt.keeper.cabin stand.2 in
    let f : falls_of cut.keeper.cabin ≡ falls_of (with_power_lost second kt.keeper.cabin) = ap (λ (r : Run). falls_of r.keeper.cabin) is in
    let l : length after.breaks.items ≡ length told.breaks.items + 1 = ap (λ (o : Outcome). length o.breaks.items) same ∙ lines-length (cut_at second true begun ∷ []) told.breaks in
    let r : after.breaks.room ≡ told.breaks.room = ap (λ (o : Outcome). o.breaks.room) same in
    let b = s.breaks in
    record {
      marks_room = ap (λ (o : Outcome). o.marks.room) same ∙ s.marks_room;
      marks = let m = s.marks in let e = ap (λ (o : Outcome). length o.marks.items) same in omega (arith, m, e);
      breaks_room = r ∙ s.breaks_room;
      breaks = omega (arith, falls, f, l, b);
      finds = ap (λ (o : Outcome). o.finds) same ∙ s.finds;
      refused = ap (λ (o : Outcome). o.refused) same ∙ s.refused;
    }

pub returns-then-is_err-clause-behind : goal.returns-then-is_err-clause-behind
returns-then-is_err-clause-behind g c = record {
  going =
      let p = (goal.at.returns-then-is_err-clause-behind g c).After-is_err in
      subst (IsGoingThen g p) (sym (c.cut.ensures.run ∙ ap (cut_run (c.args.run.now.next + c.args.stretch.seconds - 1)) c.keep_turn-kept.ensures.kept.kept.only)) (going-cut g p);
  room =
      let run = c.args.run.now in
      let n : ℕ = c.args.stretch.seconds in
      let p = (goal.at.returns-then-is_err-clause-behind g c).After-is_err in
      let kt = c.keep_turn-kept in
      let lit = power g p in
      let lost = spends-lost n (length c.feed-decided.result.items) (run.next + n - 1) c.args.stretch.begun run kt.new.run c.cut.new.self c.args.outcome.now kt.new.outcome (told-cut g c) c.cut.ensures.run (is-cut g c) (stand-somehow g p) (spends g p kt.new.run refl) in
      let next : (passed n c.args.stretch.begun c.cut.new.self).next ≡ run.next + n = ap (λ (r : Run). r.next + n) (c.cut.ensures.run ∙ ap (cut_run (run.next + n - 1)) kt.ensures.kept.kept.only) in
      let dark : c.cut.new.self.power ≡ Lost = ap (λ (r : Run). r.power) c.cut.ensures.run in
      room-lost run (passed n c.args.stretch.begun c.cut.new.self) c.args.outcome.now (told-cut g c) n (length c.feed-decided.result.items) next c.requires.stretch.some c.requires.stretch.minute (ungiven_of lit.span) (ungiven_of (fed_many lit.span c.args.stretch.speed n)) c.requires.lit dark lost
      (waits g p) (turn-most run lit c.args.stretch.speed n c.requires.stretch.minute) (decides g p).count;
}

-- ---- it goes on

pub returns-else-is_err-clause-behind : goal.returns-else-is_err-clause-behind
returns-else-is_err-clause-behind g c = record {
  going =
      let p = (goal.at.returns-else-is_err-clause-behind g c).After-is_err in
      subst (IsGoingThen g p) (sym c.keep_turn-kept.ensures.kept.kept.only) (going-on g p (sym c.is_err.ensures.value ∙ c.if-is_err.false));
  room =
      let run = c.args.run.now in
      let n : ℕ = c.args.stretch.seconds in
      let p = (goal.at.returns-else-is_err-clause-behind g c).After-is_err in
      let kt = c.keep_turn-kept in
      let lit = power g p in
      let later = ungiven_of (fed_many lit.span c.args.stretch.speed n) in
      let next : (passed n c.args.stretch.begun kt.new.run).next ≡ run.next + n = ap (λ (r : Run). r.next + n) kt.ensures.kept.kept.only in
      let still : kt.new.run.power ≡ Lit = ap (λ (r : Run). r.power) kt.ensures.kept.kept.only ∙ c.requires.lit in
      let minutes : kt.new.run.minutes ≡ c.feed-decided.new.minutes = ap (λ (r : Run). r.minutes) kt.ensures.kept.kept.only in
      room-lit run (passed n c.args.stretch.begun kt.new.run) c.args.outcome.now kt.new.outcome n (length c.feed-decided.result.items) next c.requires.stretch.some c.requires.stretch.minute (ungiven_of lit.span) later c.requires.lit still (spends g p (passed n c.args.stretch.begun kt.new.run) refl) (waits g p)
      (ap (λ (m : Minutes). later + m.owing) minutes ∙ owing-sum c.feed-decided.new.minutes (fed_many lit.span c.args.stretch.speed n) (c.feed-decided.ensures.fed lit.span lit.stands) ∙ ap (λ (m : ℕ). m / 60) (turn-end run lit c.args.stretch.speed n ∙ sym next)) (decides g p).count;
}

-- ---- where no tear of a failed call is told no card has broken down

pub returns-then-is_err-clause-turned : goal.returns-then-is_err-clause-turned
returns-then-is_err-clause-turned g c = record {
  seconds = turned g (goal.at.returns-then-is_err-clause-turned g c).After-is_err true c.if-is_err.true c.cut.new.self (told-cut g c) c.cut.ensures.run (is-cut g c);
  next = ap (λ (r : Run). r.next) (c.cut.ensures.run ∙ ap (cut_run (c.args.run.now.next + c.args.stretch.seconds - 1)) c.keep_turn-kept.ensures.kept.kept.only);
  unfound = ap (λ (r : Run). r.unfound) (c.cut.ensures.run ∙ ap (cut_run (c.args.run.now.next + c.args.stretch.seconds - 1)) c.keep_turn-kept.ensures.kept.kept.only);
  refused = ap (λ (o : Outcome). o.refused) c.keep_turn-kept.ensures.kept.kept.outcome;
  finds = ap (λ (o : Outcome). o.finds) c.keep_turn-kept.ensures.kept.kept.outcome;
}

pub returns-then-is_err-clause-leaves : goal.returns-then-is_err-clause-leaves
returns-then-is_err-clause-leaves g c = record {
  booked = booked g (goal.at.returns-then-is_err-clause-leaves g c).After-is_err true c.if-is_err.true c.cut.new.self (told-cut g c) c.cut.ensures.run (is-cut g c);
  noted = noted g (goal.at.returns-then-is_err-clause-leaves g c).After-is_err true c.if-is_err.true c.cut.new.self (told-cut g c) c.cut.ensures.run (is-cut g c);
  evented = evented g (goal.at.returns-then-is_err-clause-leaves g c).After-is_err true c.if-is_err.true c.cut.new.self (told-cut g c) c.cut.ensures.run (is-cut g c);
  block =
      brings-cut c.args.stretch.seconds c.args.stretch.speed (c.args.run.now.next + c.args.stretch.seconds - 1) c.args.run.now c.feed-decided.new.minutes c.keep_turn-kept.new.run c.cut.new.self (g.M.Medium.state c.args.unit.now) (g.M.Medium.state c.keep_turn-kept.new.unit) c.cut.ensures.run
      (brought g (goal.at.returns-then-is_err-clause-leaves g c).After-is_err true c.if-is_err.true c.cut.new.self (told-cut g c) c.cut.ensures.run (is-cut g c));
}

pub returns-else-is_err-clause-turned : goal.returns-else-is_err-clause-turned
returns-else-is_err-clause-turned g c = record {
  seconds = turned g (goal.at.returns-else-is_err-clause-turned g c).After-is_err false c.if-is_err.false c.keep_turn-kept.new.run c.keep_turn-kept.new.outcome refl refl;
  next = ap (λ (r : Run). r.next) c.keep_turn-kept.ensures.kept.kept.only;
  unfound = ap (λ (r : Run). r.unfound) c.keep_turn-kept.ensures.kept.kept.only;
  refused = ap (λ (o : Outcome). o.refused) c.keep_turn-kept.ensures.kept.kept.outcome;
  finds = ap (λ (o : Outcome). o.finds) c.keep_turn-kept.ensures.kept.kept.outcome;
}

pub returns-else-is_err-clause-leaves : goal.returns-else-is_err-clause-leaves
returns-else-is_err-clause-leaves g c = record {
  booked = booked g (goal.at.returns-else-is_err-clause-leaves g c).After-is_err false c.if-is_err.false c.keep_turn-kept.new.run c.keep_turn-kept.new.outcome refl refl;
  noted = noted g (goal.at.returns-else-is_err-clause-leaves g c).After-is_err false c.if-is_err.false c.keep_turn-kept.new.run c.keep_turn-kept.new.outcome refl refl;
  evented = evented g (goal.at.returns-else-is_err-clause-leaves g c).After-is_err false c.if-is_err.false c.keep_turn-kept.new.run c.keep_turn-kept.new.outcome refl refl;
  block =
      brings-on c.args.stretch.seconds c.args.stretch.speed c.args.run.now c.feed-decided.new.minutes c.keep_turn-kept.new.run (g.M.Medium.state c.args.unit.now) (g.M.Medium.state c.keep_turn-kept.new.unit) (ap (λ (r : Run). r.power) c.keep_turn-kept.ensures.kept.kept.only ∙ c.requires.lit)
      (brought g (goal.at.returns-else-is_err-clause-leaves g c).After-is_err false c.if-is_err.false c.keep_turn-kept.new.run c.keep_turn-kept.new.outcome refl refl);
}

-- three minutes at most are decided
module _ (g : Over) (c : After-is_err g) where
  few-decided : length c.feed-decided.result.items ≤ 3
  few-decided =
      let l = power g c in
      let count = (decides g c).count in
      let least = turn-most c.args.run.now l c.args.stretch.speed c.args.stretch.seconds c.requires.stretch.minute in
      let sum = owing-sum c.args.run.now.minutes l.span l.stands in
      let next = l.next in
      let some = (owing-few l.span c.args.run.now.minutes l.stands).0 in
      omega (arith, count, least, sum, next, some)

  wrote : WroteAtMost 93 294 (first_devices g c) (last_devices g c)
  wrote =
      let few = few-decided in
      wrote-more (26 * length c.feed-decided.result.items + 15) 93 (98 * length c.feed-decided.result.items) 294 (first_devices g c) (last_devices g c) (omega (arith, few)) (omega (arith, few)) (rw c.as_slice.ensures.value at c.keep_turn-kept.ensures.most)

pub returns-then-is_err-clause-goes : goal.returns-then-is_err-clause-goes
returns-then-is_err-clause-goes g c = record {
  later = c.keep_turn-kept.ensures.goes.all.later;
  calm =
      let p = (goal.at.returns-then-is_err-clause-goes g c).After-is_err in
      calm-more (first_devices g p) (last_devices g p) _ c.keep_turn-kept.ensures.goes.all.calm (ap (λ (l : Listed Break). l.items) c.cut.ensures.breaks) refl;
  more =
      let more = c.keep_turn-kept.ensures.goes.all.more in
      let told = ap (λ (b : Listed Break). length b.items) c.cut.ensures.breaks ∙ lines-length (cut_at (c.args.run.now.next + c.args.stretch.seconds - 1) true c.args.stretch.begun ∷ []) c.keep_turn-kept.new.outcome.breaks in
      omega (arith, more, told);
  broke =
      cut-broke _ _ _ _ _ (g.M.Medium.state c.args.unit.now) (g.M.Medium.state c.keep_turn-kept.new.unit) (is_err c.keep_turn-kept.result) (c.requires.going.lit (ap is_lit c.requires.lit)).ready.unit_ready.works c.keep_turn-kept.ensures.stands.cause
      (sym c.is_err.ensures.value ∙ c.if-is_err.true) (turn-uncut _ _ _ _ _ _ _ _ _ c.keep_turn-kept.ensures.kept.kept) (ap (λ (l : Listed Break). l.items) c.cut.ensures.breaks);
  most = wrote g (goal.at.returns-then-is_err-clause-goes g c).After-is_err;
}

pub returns-else-is_err-clause-goes : goal.returns-else-is_err-clause-goes
returns-else-is_err-clause-goes g c = record {
  later = c.keep_turn-kept.ensures.goes.all.later;
  calm = c.keep_turn-kept.ensures.goes.all.calm;
  more = c.keep_turn-kept.ensures.goes.all.more;
  broke = uncut-broke _ _ (g.M.Medium.state c.args.unit.now) (g.M.Medium.state c.keep_turn-kept.new.unit) (is_err c.keep_turn-kept.result) c.keep_turn-kept.ensures.stands.cause (sym c.is_err.ensures.value ∙ c.if-is_err.false) (turn-uncut _ _ _ _ _ _ _ _ _ c.keep_turn-kept.ensures.kept.kept);
  most = wrote g (goal.at.returns-else-is_err-clause-goes g c).After-is_err;
}
