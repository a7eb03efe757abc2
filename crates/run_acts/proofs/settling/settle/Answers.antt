use Rattle.std.proofs.Common.{suc, ◌≡◌, ℕ, ◌*◌, ◌/◌, ◌≤◌, None, [], length, refl, ap, arith, subst, sym}
use Rattle.std.specs.Prelude.{is_err}
use Rattle.tach_media.proofs.Runs.{on_ok}
use Rattle.unit_model.specs.minute_model.Span.{ungiven_of, settled}
use Rattle.minute_rules.proofs.GoingOn.{owing-few}
use Rattle.log_model.specs.Log.{In}
use Rattle.run_events.specs.run_rings.Spans.{with_second}
use Rattle.run_minutes.specs.Minutes.{AreKept, KeepingState}
use Rattle.run_minutes.specs.Decided.{readings_of}
use Rattle.run_acts.specs.Recording.{values_of}
use Rattle.run_acts.specs.Settling.{settled_run}
use Rattle.run_acts.specs.declared.run.Run.{Run}
use Rattle.run_acts.specs.declared.run.Power.{Power}
use Rattle.run_acts.specs.Room.{waiting}
use Rattle.run_acts.proofs.Kept.{given-ended, given-rows, kept-going, seats-less, owing-is, owing-sum}
use Rattle.run_acts.specs.Acting.{told_of}
use Rattle.run_acts.proofs.Settled.{settled-ungiven, settled-later, settled-most, settled-decides}
use Rattle.run_acts.proofs.Bare.{all-bare}
use Rattle.run_acts.proofs.GoesOn.{kept-devices, settled-left}
use Rattle.run_outcome.specs.declared.outcome.Outcome.{Outcome}
use Rattle.run_events.proofs.Newest.{knows-left}
use Rattle.run_acts.proofs.Ringing.{settling-leaves}
use Rattle.run_acts.proofs.Comings.{leaves-more}
use Rattle.run_acts.proofs.SettledRecorded.{settling-so, booked}
use Rattle.run_acts.proofs.SettledEvented.{settling-events}
use Rattle.device_calls.specs.safety_model.Safe.{Devices}
use Rattle.run_minutes.specs.run_promise.Between.{devices}
use Rattle.run_acts.proofs.CardStays.{timed-still}
use Rattle.run_acts.proofs.CardPlaces.{timed-stays}
use Rattle.run_acts.proofs.RingedSecond.{more-left}
use Rattle.run_acts.proofs.Stood.{timed-let}
use Rattle.run_acts.proofs.Readings.{values-read}
use Rattle.run_acts.proofs.Due.{Decides}
use Rattle.run_acts.specs.Devices.{DevicesGoOn}
use Rattle.run_acts.proofs.settling.settle.Given.{Over}
use Rattle.run_acts.proofs.settling.settle.Goals.{After-as_slice, After-keep_all}
use Rattle.run_minutes.proofs.Writes.{wrote-more}
use Rattle.run_acts.proofs.settling.settle.Goals as goal
use Rattle.run_acts.specs.Keepings.{KeepsSettled}

-- ---- what is decided

module _ (g : Over) (c : After-as_slice g) where
  decided : Decides (ungiven_of c.requires.may.going.1.span) (ungiven_of (settled c.requires.may.going.1.span)) c.args.run.now.keeper.journal.kept c.settle-decided.result.items
  decided = let h = c.requires.may.going in settled-decides h.0 (c.args.run.now.next / 60) c.args.run.now h.1 c.settle-decided.result.items c.requires.may.small (c.settle-decided.ensures.given h.1.span h.1.stands)

pub keep_all-requires-clause-ready : goal.keep_all-requires-clause-ready
keep_all-requires-clause-ready g c = c.requires.may.going.1.ready

pub keep_all-requires-clause-may : goal.keep_all-requires-clause-may
keep_all-requires-clause-may g c =
    let h = c.requires.may.going in
    let d = decided g (goal.at.keep_all-requires-clause-may g c).After-as_slice in
    let is = settled-ungiven h.0 (c.args.run.now.next / 60) c.args.run.now h.1 in
    let count = d.count in
    let sum = owing-sum c.args.run.now.minutes h.1.span h.1.stands in
    let end = h.1.next in
    let at = c.requires.at in
    let low = c.requires.may.low in
    let early = c.requires.may.held.minute in
    let room = c.requires.room.marks in
    record {
      due = rw c.as_slice.ensures.value d.due;
      ended = rw c.as_slice.ensures.value (given-ended h.0 (c.args.run.now.next / 60) (ungiven_of (settled h.1.span)) c.args.run.now h.1 c.settle-decided.result.items d (omega (arith, is)));
      rows = rw c.as_slice.ensures.value (given-rows h.0 (c.args.run.now.next / 60) (ungiven_of (settled h.1.span)) c.args.run.now h.1 c.settle-decided.result.items d (omega (arith, is)));
      from = ungiven_of h.1.span;
      leaving = h.0;
      late = rw c.as_slice.ensures.value d.from;
      stands = h.1.cabin;
      odometer = c.requires.may.held.odometer;
      minute = omega (arith, at, early);
      second = λ none. absurd (omega (arith, at, low, none));
      marks = rw c.as_slice.ensures.value (omega (arith, is, count, sum, end, room));
      breaks = c.requires.room.breaks;
    }

-- ---- what is kept

module _ (g : Over) (c : After-keep_all g) where
  abbrev first : Devices
  first = devices (g.M.Medium.state c.args.unit.now) (g.C.Chip.state c.args.card_a.now) (g.D.Chip.state c.args.card_b.now)

  abbrev last : Devices
  last = devices (g.M.Medium.state c.keep_all.new.unit) (g.C.Chip.state c.keep_all.new.card_a) (g.D.Chip.state c.keep_all.new.card_b)

  went : DevicesGoOn (is_err c.keep_all.result) c.args.run.now.keeper.cabin.cards c.keep_all.new.self.cabin.cards first last
  went = kept-devices c.keep_all.ensures.stands c.keep_all.ensures.goes.keeping (λ none. ap g.C.Chip.state (c.keep_all.ensures.bare.card_a none)) (λ none. ap g.D.Chip.state (c.keep_all.ensures.bare.card_b none))

pub returns-clause-settled : goal.returns-clause-settled
returns-clause-settled g c = record {
  only = refl;
  minutes = c.settle-decided.ensures.settled;
  decided = c.settle-decided.result.items;
  given = c.settle-decided.ensures.given;
  kept = (rw c.as_slice.ensures.value at c.keep_all.ensures.kept).kept;
  outcome = c.keep_all.ensures.only;
}

pub returns-clause-keeps : goal.returns-clause-keeps
returns-clause-keeps g c =
    let h = c.requires.may.going in
    let k = c.keep_all.ensures in
    let old = c.args.run.now in
    let items = c.settle-decided.result.items in
    let given = c.settle-decided.ensures.given in
    let b = rw c.as_slice.ensures.value at k.kept in
    let U = g.M.Medium.state c.args.unit.now in
    let V = g.M.Medium.state c.keep_all.new.unit in
    let new : Run = record old { minutes = c.settle-decided.new.self; keeper = c.keep_all.new.self } in
    let after : Outcome = record c.args.outcome.now { marks = c.keep_all.new.outcome.marks; breaks = c.keep_all.new.outcome.breaks } in
    let leaves = settling-leaves c.args.at (is_err c.keep_all.result) old new c.args.outcome.now after U V (items, given, b.reach, b.is, b.noted) in
    let its = booked old c.args.outcome.now c.settle-decided.new.self c.keep_all.new.self c.keep_all.new.outcome.marks c.keep_all.new.outcome.breaks c.args.at (is_err c.keep_all.result) items (first g c) (last g c)
    h.0 h.1 c.requires.may.small (c.settle-decided.ensures.settled h.1.span h.1.stands) (given h.1.span h.1.stands) k.goes.keeping.odometer b.reach b.is b.books (went g c) in
    subst (λ (o : Outcome). KeepsSettled c.args.at (is_err c.keep_all.result) old new c.args.outcome.now o (first g c) (last g c)) (sym c.keep_all.ensures.only) (record {
      decided = items;
      given = given;
      reach = b.reach;
      is = b.is;
      books = b.books;
      noted = b.noted;
      recorded = λ o done s n waits some here r time. settling-so old c.args.outcome.now c.settle-decided.new.self c.keep_all.new.self c.keep_all.new.outcome.marks c.keep_all.new.outcome.breaks c.args.at (is_err c.keep_all.result) items
          (first g c) (last g c)
          h.0 h.1 c.requires.may.small (c.settle-decided.ensures.settled h.1.span h.1.stands) (given h.1.span h.1.stands) k.goes.keeping.odometer b.reach b.is b.books
          (went g c)
          o done s n waits some here r time (leaves-more U V leaves);
      evented = λ o done s n waits here r untold evented time. settling-events old c.args.outcome.now c.settle-decided.new.self c.keep_all.new.self c.keep_all.new.outcome.marks c.keep_all.new.outcome.breaks c.args.at (is_err c.keep_all.result) items
          (first g c) (last g c)
          h.0 h.1 c.requires.may.small (c.settle-decided.ensures.settled h.1.span h.1.stands) (given h.1.span h.1.stands) k.goes.keeping.odometer b.reach b.is b.books
          (went g c)
          (g.met.M.Medium.coherent c.args.unit.now) c.requires.may.held.is_unit b.noted o done s n waits here r time untold evented;
      cards = λ o done s n waits here r time. timed-still o r.origin (readings_of old.keeper items) (first g c) (last g c) (its o done s (suc n) waits (omega arith) here r time).1;
      places = λ o done s n waits here r time spans t now.
          timed-stays o r.origin (readings_of old.keeper items) (first g c) (last g c) (its o done s (suc n) waits (omega arith) here r time).1 (with_second spans old.keeper.odometer t)
          (values-read o done s (In (suc n)) waits None items (values_of (settled_run c.settle-decided.new.self old) c.args.outcome.now) (first g c) r.within spans old.keeper.odometer t now old.keeper refl);
      stands = λ o done s n waits here r time. timed-let o r.origin (readings_of old.keeper items) (first g c) (last g c) (its o done s (suc n) waits (omega arith) here r time).1
          (more-left o (first g c) (last g c) (r.within.powered.lit.unit.unit_holds [] []).later r.within.there.clocks (settled-left c.keep_all.ensures.goes.keeping));
    })

pub returns-clause-stands : goal.returns-clause-stands
returns-clause-stands g c = record {
  held =
      record {
        held =
            let h = c.requires.may.going in
            let e = c.keep_all.ensures in
            let d = decided g (goal.at.returns-clause-stands g c).After-as_slice in
            let later = settled-later h.0 (c.args.run.now.next / 60) c.args.run.now h.1 in
            let next : ℕ = ungiven_of (settled h.1.span) in
            record {
              is_unit = e.stands.unit;
              odometer = let same = e.goes.keeping.odometer in let most = c.requires.may.held.odometer in omega (arith, same, most);
              minute = let le = e.stands.minute in let at = c.requires.at in omega (arith, le, at);
              card_a = record { port = e.stands.card_a.port; size = let same = e.goes.keeping.card_a.size in let size = c.requires.may.held.card_a.size in omega (arith, same, size) };
              card_b = record { port = e.stands.card_b.port; size = let same = e.goes.keeping.card_b.size in let size = c.requires.may.held.card_b.size in omega (arith, same, size) };
              stand = (next, h.0, e.kept.stands (ungiven_of h.1.span) h.0 (rw c.as_slice.ensures.value d.from) h.1.cabin next later (rw c.as_slice.ensures.value d.last));
            };
        cause = c.keep_all.ensures.stands.cause;
      };
  going = λ leaving h.
      on_ok c.keep_all.result (λ well.
      let e = c.keep_all.ensures in
      let b = rw c.as_slice.ensures.value at e.kept in
      let old = c.args.run.now in
      let items = c.settle-decided.result.items in
      let new : Run = record old { minutes = c.settle-decided.new.self; keeper = c.keep_all.new.self } in
      let d = settled-decides leaving (old.next / 60) old h items c.requires.may.small (c.settle-decided.ensures.given h.span h.stands) in
      kept-going leaving (old.next / 60) old new h (settled h.span) items d (c.settle-decided.ensures.settled h.span h.stands) h.next refl (settled-later leaving (old.next / 60) old h) (settled-most leaving (old.next / 60) old h)
      (e.stands.ready well) (e.stands.rows well) e.goes.keeping.past (b.last well) b.stands e.goes.keeping.sessions refl h.watches h.limit
      (knows-left old.watch.newest (g.M.Medium.state c.args.unit.now) (g.M.Medium.state c.keep_all.new.unit) (g.met.M.Medium.coherent c.args.unit.now) (g.met.M.Medium.coherent c.keep_all.new.unit) h.ready.unit_ready.works e.goes.speeds h.newest));
  none =
      let h = c.requires.may.going in
      let now = c.settle-decided.ensures.settled h.1.span h.1.stands in
      let is = owing-is c.settle-decided.new.self (settled h.1.span) now in
      let at = settled-ungiven h.0 (c.args.run.now.next / 60) c.args.run.now h.1 in
      let end = h.1.next in
      omega (arith, is, at, end);
  bare =
      let t = told_of c.args.run.now c.args.outcome.now in
      let u : KeepingState = record { keeper = c.keep_all.new.self; marks = c.keep_all.new.outcome.marks; breaks = c.keep_all.new.outcome.breaks } in
      λ well slot free.
      let kept : AreKept c.args.at c.as_slice.result.now t u = (rw well at c.keep_all.ensures.kept).kept in
      let stays = all-bare c.args.at c.as_slice.result.now t u slot kept free in
      (stays.seat, stays.bare);
}

pub returns-clause-takes : goal.returns-clause-takes
returns-clause-takes g c =
    let h = c.requires.may.going in
    let e = c.keep_all.ensures in
    let old = c.args.run.now in
    let d = decided g (goal.at.returns-clause-takes g c).After-as_slice in
    let at = settled-ungiven h.0 (old.next / 60) old h.1 in
    let count = d.count in
    let sum = owing-sum old.minutes h.1.span h.1.stands in
    let end = h.1.next in
    let now = c.settle-decided.ensures.settled h.1.span h.1.stands in
    let is = owing-is c.settle-decided.new.self (settled h.1.span) now in
    let was : waiting old.power old.minutes.owing ≡ old.minutes.owing = ap (λ (p : Power). waiting p old.minutes.owing) c.requires.may.lit in
    let then : waiting old.power c.settle-decided.new.self.owing ≡ c.settle-decided.new.self.owing = ap (λ (p : Power). waiting p c.settle-decided.new.self.owing) c.requires.may.lit in
    let few = e.kept.marks in
    let same : length c.as_slice.result.now ≡ length c.settle-decided.result.items = ap length c.as_slice.ensures.value in
    let seats = seats-less old.keeper.cabin.slots.seats c.keep_all.new.self.cabin.slots.seats e.goes.keeping.seats in
    let tears = e.goes.keeping.tears in
    record {
      rooms = (e.goes.keeping.all.mark_room, e.goes.keeping.all.break_room, ap (λ (o : Outcome). o.finds.room) e.only, ap (λ (o : Outcome). o.refused.room) e.only);
      marks = omega (arith, few, same, at, count, sum, end, is, was, then);
      breaks = omega (arith, seats, tears);
      finds = let finds = ap (λ (o : Outcome). length o.finds.items) e.only in omega (arith, finds);
      refused = let refused = ap (λ (o : Outcome). length o.refused.items) e.only in omega (arith, refused);
    }

-- ---- its writes

pub returns-clause-goes : goal.returns-clause-goes
returns-clause-goes g c = record {
  keeping = c.keep_all.ensures.goes.keeping;
  speeds = c.keep_all.ensures.goes.speeds;
  most =
      let h = c.requires.may.going in
      let d = decided g (goal.at.returns-clause-goes g c).After-as_slice in
      let is = settled-ungiven h.0 (c.args.run.now.next / 60) c.args.run.now h.1 in
      let count = d.count in
      let sum = owing-sum c.args.run.now.minutes h.1.span h.1.stands in
      let end = h.1.next in
      let some = (owing-few h.1.span c.args.run.now.minutes h.1.stands).0 in
      let few : length c.settle-decided.result.items ≤ 3 = omega (arith, is, count, sum, end, some) in
      wrote-more (26 * length c.settle-decided.result.items) 78 (98 * length c.settle-decided.result.items) 294 (first g (goal.at.returns-clause-goes g c).After-keep_all) (last g (goal.at.returns-clause-goes g c).After-keep_all)
      (omega (arith, few)) (omega (arith, few)) (rw c.as_slice.ensures.value at c.keep_all.ensures.goes.most);
}
