use Rattle.std.proofs.lemmas.Grind.{common_steps}
use Rattle.std.proofs.Common.{◌≡◌, arith, ◌≤◌, ℕ, Bool, true, false, rules, Option, sym, subst}
use Rattle.std.specs.Prelude.{is_err}
use Rattle.log_model.specs.Causes.{device_of}
use Rattle.run_insertion.specs.Entering.{and_marks, last_of, taken_as}
use Rattle.run_insertion.specs.Entered.{IsEntry, IsTaken}
use Rattle.run_minutes.specs.run_devices.Told.{arranged}
use Rattle.run_insertion.specs.Told.{BooksTaken}
use Rattle.run_insertion.proofs.Opening.{beside-none}
use Rattle.run_insertion.proofs.Carried.{taken-row, seat-found, taken-notes}
use Rattle.run_insertion.proofs.Accepted.{taken-cut, taken-on}
use Rattle.run_insertion.proofs.Seats.{if-any, seated-ready, seated-minute}
use Rattle.run_minutes.proofs.Later.{state-same}
use Rattle.run_minutes.proofs.Calm.{card-beside}
use Rattle.run_insertion.proofs.seating.take_in.Goals as goal

pub returns-in_err-seat-clause-ended : goal.returns-in_err-seat-clause-ended
returns-in_err-seat-clause-ended g c =
    let k = c.args.keeper.now in
    let e = c.args.found.entering in
    let o = c.args.outcome.now in
    let entered = c.args.found.entered in
    let U = g.M.Medium.state c.args.unit.now in
    let V = g.M.Medium.state c.seat.new.unit in
    let X = g.C.Chip.state c.args.card.now in
    let Z = g.D.Chip.state c.args.found.others.now in
    let s = c.in_err-seat.ensures.seated in
    let marked = subst (λ (t : ℕ). c.tell_replayed.new.marks ≡ and_marks (device_of e.which) t (last_of entered.owed.items entered.replayed) o.marks) c.clock-clock.ensures c.tell_replayed.ensures.told in
    let t = taken-cut c.args.found.app e entered X.clock k c.args.noted.now o c.tell_replayed.new.marks c.find.new.finds marked c.find.ensures.told c.seat.new.keeper c.seat.new.noted U V X s.0 s.1 in
    let failed : true ≡ is_err c.from_residual.result = search rules in
    subst (λ (b : Bool). (fell : Bool) × (entry : Option ℕ) × IsEntry entry b U.image
    × IsTaken c.args.found.app e b k c.seat.new.keeper c.args.noted.now c.seat.new.noted o (record o { marks = c.tell_replayed.new.marks; finds = c.find.new.finds }) U V X X (taken_as fell entered X.clock entry) × BooksTaken entered (taken_as fell entered X.clock entry) e b k c.seat.new.keeper U V X X Z) failed (
      false,
      s.0,
      t.0,
      t.1,
      λ f w m. (
        taken-row entered X.clock e k.journal.kept f w c.seat.new.keeper.cabin.cards (arranged e.which V X Z) s.0 (c.in_err-seat.ensures.booked f w m),
        seat-found entered.look entered.session entered.row e true k c.seat.new.keeper c.args.noted.now c.seat.new.noted U.image s.0 s.1.by f m.valid m.named m.found,
        beside-none f e.which X,
      ),
    )

pub returns-clause-ended : goal.returns-clause-ended
returns-clause-ended g c =
    let k = c.args.keeper.now in
    let e = c.args.found.entering in
    let o = c.args.outcome.now in
    let entered = c.args.found.entered in
    let U = g.M.Medium.state c.args.unit.now in
    let X = g.C.Chip.state c.args.card.now in
    let s = c.in_ok-seat.ensures.seated in
    let m = c.note_entered.ensures.noted in
    let marked = subst (λ (t : ℕ). c.tell_replayed.new.marks ≡ and_marks (device_of e.which) t (last_of entered.owed.items entered.replayed) o.marks) c.clock-clock.ensures c.tell_replayed.ensures.told in
    let t = taken-on c.args.found.app e entered X.clock k c.args.noted.now o c.tell_replayed.new.marks c.find.new.finds marked c.find.ensures.told m.0 (is_err c.note_entered.result) c.seat.new.keeper c.note_entered.new.keeper c.seat.new.noted c.note_entered.new.breaks
    U (g.M.Medium.state c.seat.new.unit) (g.M.Medium.state c.note_entered.new.unit) X (g.C.Chip.state c.note_entered.new.card) s.0 s.1 m.1 in
    let Z = g.D.Chip.state c.args.found.others.now in (
      m.0,
      s.0,
      t.0,
      t.1,
      taken-notes c.args.found.app e entered X.clock k c.args.noted.now m.0 (is_err c.note_entered.result) c.seat.new.keeper c.note_entered.new.keeper c.seat.new.noted U (g.M.Medium.state c.seat.new.unit) (g.M.Medium.state c.note_entered.new.unit)
          X (g.C.Chip.state c.note_entered.new.card) Z m.1.keeper s.0 s.1.by c.requires.session c.in_ok-seat.ensures.booked c.in_ok-seat.ensures.value m.2 c.note_entered.ensures.timed,
    )

-- ---- what is ready behind it

pub note_entered-requires-clause-card : goal.note_entered-requires-clause-card
note_entered-requires-clause-card g c = record {
  card =
      let s = c.in_ok-seat.ensures.seated in
      seated-ready c.args.found.entered.look c.args.found.entered.session c.args.found.entered.row c.args.found.entering false c.args.keeper.now c.seat.new.keeper c.args.noted.now c.seat.new.noted (g.M.Medium.state c.args.unit.now).image s.0 c.args.found.app (g.C.Chip.card c.args.card.now) (g.C.Chip.state c.args.card.now) s.1.by c.requires.come.bare c.requires.card.sizes c.requires.session c.requires.card.port c.requires.card.works;
  works = first_of (search rules, grind (arith, common_steps));
  sizes = first_of (search rules, grind (arith, common_steps));
}

pub returns-clause-behind : goal.returns-clause-behind
returns-clause-behind g c = record {
  entered = record {
    ready = c.note_entered.ensures.behind.ready;
    rows = first_of (search rules, grind (arith, common_steps));
    stands =
        λ from le s.
        let t = c.in_ok-seat.ensures.seated in
        let same = seated-minute c.args.found.entered.look c.args.found.entered.session c.args.found.entered.row c.args.found.entering false c.args.keeper.now c.seat.new.keeper c.args.noted.now c.seat.new.noted (g.M.Medium.state c.args.unit.now).image t.0 t.1.by in
        let early : c.args.keeper.now.cabin.slots.minute ≤ from = let minute = c.requires.come.minute in omega (arith, minute, le) in
        c.note_entered.ensures.behind.stands from (subst (λ (m : ℕ). m ≤ from) (sym same) early) (c.in_ok-seat.ensures.behind.stands from early le s);
    cause = first_of (search rules, grind (arith, common_steps));
    card = c.note_entered.ensures.behind.card;
    size = c.note_entered.ensures.behind.size;
  };
  row = if-any _ (c.note_entered.ensures.behind.rows c.args.found.entering.which c.in_ok-seat.ensures.behind.row);
}

-- ---- where no tear of a failed call is told no card has broken down

pub returns-in_err-seat-clause-behind : goal.returns-in_err-seat-clause-behind
returns-in_err-seat-clause-behind g c = record {
  entered = record {
    ready = first_of (search rules, grind (arith, common_steps));
    rows = first_of (search rules, grind (arith, common_steps));
    stands =
        λ from le s.
        let early : c.args.keeper.now.cabin.slots.minute ≤ from = let minute = c.requires.come.minute in omega (arith, minute, le) in
        c.seat.ensures.behind.stands from early le s;
    cause = first_of (search rules, grind (arith, common_steps));
    card =
        let s = c.in_err-seat.ensures.seated in
        seated-ready c.args.found.entered.look c.args.found.entered.session c.args.found.entered.row c.args.found.entering true c.args.keeper.now c.seat.new.keeper c.args.noted.now c.seat.new.noted (g.M.Medium.state c.args.unit.now).image s.0 c.args.found.app (g.C.Chip.card c.args.card.now) (g.C.Chip.state c.args.card.now) s.1.by c.requires.come.bare c.requires.card.sizes c.requires.session c.requires.card.port c.requires.card.works;
    size = first_of (search rules, grind (arith, common_steps));
  };
  row = first_of (search rules, grind (arith, common_steps));
}

pub returns-in_err-seat-clause-judged : goal.returns-in_err-seat-clause-judged
returns-in_err-seat-clause-judged g c = record {
  most = c.tell_replayed.ensures.most;
  low = first_of (search rules, grind (arith, common_steps));
  sized = first_of (search rules, grind (arith, common_steps));
}

pub returns-in_err-seat-clause-goes : goal.returns-in_err-seat-clause-goes
returns-in_err-seat-clause-goes g c = record {
  card = record {
    later = state-same (g.C.Chip.state c.args.card.now);
    calm = card-beside (g.C.Chip.state c.args.card.now) (omega arith);
  };
  most = let one = c.in_err-seat.ensures.most in (omega (arith, one), omega arith);
}

pub returns-clause-judged : goal.returns-clause-judged
returns-clause-judged g c = record {
  most = c.tell_replayed.ensures.most;
  low = first_of (search rules, grind (arith, common_steps));
  sized = first_of (search rules, grind (arith, common_steps));
}

pub returns-clause-goes : goal.returns-clause-goes
returns-clause-goes g c = record {
  card = record {
    later = c.note_entered.ensures.goes.card.later;
    calm = c.note_entered.ensures.goes.card.calm;
  };
  most = let one = c.in_ok-seat.ensures.most in let last = c.note_entered.ensures.goes.most.0 in (omega (arith, one, last), c.note_entered.ensures.goes.most.1);
}

-- ---- its writes

pub seat-requires-clause-may : goal.seat-requires-clause-may
seat-requires-clause-may g c = record {
  seat = first_of (search rules, grind (arith, common_steps));
  elsewhere = first_of (search rules, grind (arith, common_steps));
  sizes = first_of (search rules, grind (arith, common_steps));
  second = first_of (search rules, grind (arith, common_steps));
  fits = first_of (search rules, grind (arith, common_steps));
}

pub seat-requires-clause-row : goal.seat-requires-clause-row
seat-requires-clause-row g c = c.requires.row

pub note_entered-requires-clause-may : goal.note_entered-requires-clause-may
note_entered-requires-clause-may g c = record {
  minute = first_of (search rules, grind (arith, common_steps));
  second = first_of (search rules, grind (arith, common_steps));
  room = first_of (search rules, grind (arith, common_steps));
}
