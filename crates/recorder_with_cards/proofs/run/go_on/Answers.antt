use Rattle.std.proofs.lemmas.Grind.{common_steps}
use Rattle.std.proofs.Common.{◌≡◌, ◌∙◌, ℕ, ◌+◌, ◌-◌, true, false, List, ◌++◌, length, refl, ap, sym, subst, arith, rules}
use Rattle.std.proofs.lemmas.List.{append-nil}
use Rattle.trace_model.specs.declared.Action.{Action}
use Rattle.trace_model.specs.Trace.{TraceSecond, seconds_at, item_seconds}
use Rattle.minute_rules.specs.minute_model.Span.{ungiven_of}
use Rattle.device_calls.specs.safety_model.Safe.{Devices}
use Rattle.run_minutes.specs.run_promise.Between.{devices}
use Rattle.run_outcome.specs.declared.outcome.Outcome.{Outcome}
use Rattle.run_acts.specs.RunRinged.{RunRinged}
use Rattle.recorder_with_cards.specs.Recorded.{actions_in, HasRunBy}
use Rattle.recorder_with_cards.proofs.SecondsRinged.{off-ringed}
use Rattle.recorder_with_cards.specs.Carded.{RunTimely}
use Rattle.recorder_with_cards.proofs.Promised.{both}
use Rattle.recorder_with_cards.proofs.Growing.{off-grows}
use Rattle.recorder_with_cards.proofs.Moments.{moments-on, near-dark}
use Rattle.trace_model.specs.Trace.{dark}
use Rattle.device_calls.specs.safety_model.Safe.{card_of}
use Rattle.tach_media.specs.Medium.{IsCoherent}
use Rattle.recorder_with_cards.proofs.SecondsCards.{off-carded}
use Rattle.tach_media.proofs.Runs.{on_ok, ok_gives}
use Rattle.trace_model.specs.declared.Item.{Item}
use Rattle.trace_text.specs.Line.{InRange}
use Rattle.log_model.specs.declared.lines.Break.{Break}
use Rattle.run_outcome.specs.Lines.{Listed}
use Rattle.run_outcome.specs.Room.{off_count}
use Rattle.run_minutes.proofs.Counts.{lines-length}
use Rattle.run_acts.specs.declared.run.Run.{Run}
use Rattle.run_acts.specs.Power.{is_lit, off_cut}
use Rattle.run_acts.specs.Going.{IsBetweenSeconds}
use Rattle.run_acts.specs.Room.{cuts_from, HasRoom}
use Rattle.run_acts.proofs.Standing.{off-at}
use Rattle.recorder_with_cards.specs.Items.{between, insertions_in}
use Rattle.recorder_with_cards.proofs.Rooms.{room-less}
use Rattle.recorder_with_cards.specs.Gone.{has_seconds, HasGone}
use Rattle.recorder_with_cards.proofs.Dark.{cut-room, off-room, unfound-same}
use Rattle.run_minutes.proofs.Later.{after-same}
use Rattle.run_outcome.proofs.Broken.{broke-none, broke-behind}
use Rattle.recorder_with_cards.proofs.Uncut.{off-uncut, off-calm}
use Rattle.run_minutes.proofs.Calm.{calm-told, calm-same}
use Rattle.recorder_with_cards.proofs.PowerOns.{off-on}
use Rattle.recorder_with_cards.proofs.Writes.{between-none, between-more}
use Rattle.recorder_with_cards.specs.Writes.{WritesBetween, powered, powered_by, turns_at, acts_at}
use Rattle.recorder_with_cards.proofs.run.go_on.Goals as goal

-- ---- an action waits

pub returns-in-Act-clause-gone : goal.returns-in-Act-clause-gone
returns-in-Act-clause-gone g c = record {
  late = tt;
  going = c.requires.going;
  next = let none = ap item_seconds c.in-Act.is in omega (arith, none);
  unfound = c.requires.may.unfound;
  is_unit = c.requires.going.held.is_unit;
}

pub returns-in-Act-clause-idle : goal.returns-in-Act-clause-idle
returns-in-Act-clause-idle g c = λ none. (refl, refl)

pub returns-in-Act-clause-room : goal.returns-in-Act-clause-room
returns-in-Act-clause-room g c = λ left offs insertions actions h some. absurd (let no : false ≡ true = sym (ap has_seconds c.in-Act.is) ∙ some in cc)

-- ---- seconds without power

pub off-requires-clause-small : goal.off-requires-clause-small
off-requires-clause-small g c = let is = ap item_seconds c.in-Off.is in let small = c.requires.may.small in omega (arith, is, small)

pub off-requires-clause-room : goal.off-requires-clause-room
off-requires-clause-room g c = λ lit.
    let k : ℕ = insertions_in c.args.due.from c.args.due.to c.args.due.items.now in
    let a : ℕ = c.args.due.to - c.args.due.from in
    cut-room c.args.run.now c.args.outcome.now c.in-Off.seconds 0 k a
    (subst (λ (i : Item). HasRoom c.args.run.now c.args.outcome.now (item_seconds i) (off_count i) k a) c.in-Off.is c.requires.may.room) lit

pub returns-in-Off-clause-gone : goal.returns-in-Off-clause-gone
returns-in-Off-clause-gone g c =
    let run = c.args.run.now in
    let is = ap item_seconds c.in-Off.is in
    let small = c.requires.may.small in
    record {
      late = tt;
      going = subst (λ (r : Run). IsBetweenSeconds r (g.M.Medium.state c.args.unit.now) (g.C.Chip.card c.args.card_a.now) (g.D.Chip.card c.args.card_b.now) (g.C.Chip.state c.args.card_a.now) (g.D.Chip.state c.args.card_b.now)) (sym c.off.ensures.run)
          (off-at run c.in-Off.seconds (omega (arith, small, is)) c.requires.going);
      next = ap (λ (r : Run). r.next) c.off.ensures.run ∙ ap (λ (n : ℕ). run.next + n) (sym is);
      unfound =
          let same = ap (λ (r : Run). r.unfound) c.off.ensures.run ∙ unfound-same c.in-Off.seconds run in
          let more = ap (λ (l : Listed Break). length l.items) c.off.ensures.breaks ∙ lines-length (off_cut (is_lit run.power) (run.next - 1) run.begun) c.args.outcome.now.breaks in
          let was = c.requires.may.unfound in
          omega (arith, same, more, was);
      is_unit = c.requires.going.held.is_unit;
    }

pub returns-in-Off-clause-idle : goal.returns-in-Off-clause-idle
returns-in-Off-clause-idle g c = λ none. absurd (let no : true ≡ false = sym (ap has_seconds c.in-Off.is) ∙ none in cc)

pub returns-in-Off-clause-room : goal.returns-in-Off-clause-room
returns-in-Off-clause-room g c = λ left offs insertions actions h some.
    let run = c.args.run.now in
    let o = c.args.outcome.now in
    let k : ℕ = insertions_in c.args.due.from c.args.due.to c.args.due.items.now in
    let a : ℕ = c.args.due.to - c.args.due.from in
    let stand = c.requires.going.held.stand in
    let here = subst (λ (i : Item). HasRoom run o (item_seconds i + left) (off_count i + offs) (k + insertions) (a + actions)) c.in-Off.is h in
    subst (λ (r : Run). HasRoom r (record o { breaks = c.off.new.breaks }) left offs insertions actions) (sym c.off.ensures.run)
    (off-room run o c.in-Off.seconds stand.0 stand.1 stand.2 c.off.new.breaks c.off.ensures.breaks left offs insertions actions
    (room-less cuts_from run o (c.in-Off.seconds + left) (c.in-Off.seconds + left) (1 + offs) (1 + offs) (k + insertions) insertions (a + actions) actions (omega arith) (omega arith) (omega arith) (omega arith) here))

-- ---- seconds at one speed

pub drive-requires-clause-some : goal.drive-requires-clause-some
drive-requires-clause-some g c = (subst InRange c.in-Run.is c.requires.item).0

pub drive-requires-clause-may : goal.drive-requires-clause-may
drive-requires-clause-may g c = record {
  small = let is = ap item_seconds c.in-Run.is in let small = c.requires.may.small in omega (arith, is, small);
  room = subst (λ (i : Item). HasRoom c.args.run.now c.args.outcome.now (item_seconds i) (off_count i) (insertions_in c.args.due.from c.args.due.to c.args.due.items.now) (c.args.due.to - c.args.due.from)) c.in-Run.is c.requires.may.room;
  unfound = first_of (search rules, grind (arith, common_steps));
}

pub returns-in-Run-clause-gone : goal.returns-in-Run-clause-gone
returns-in-Run-clause-gone g c =
    subst (λ (n : ℕ). HasGone c.drive.result n c.args.run.now c.drive.new.run c.drive.new.outcome (g.M.Medium.state c.drive.new.unit) (g.C.Chip.card c.drive.new.card_a) (g.D.Chip.card c.drive.new.card_b) (g.C.Chip.state c.drive.new.card_a) (g.D.Chip.state c.drive.new.card_b))
    (sym (ap item_seconds c.in-Run.is)) c.drive.ensures.gone

pub returns-in-Run-clause-idle : goal.returns-in-Run-clause-idle
returns-in-Run-clause-idle g c = on_ok c.drive.result (λ well none. absurd (let no : true ≡ false = sym (ap has_seconds c.in-Run.is) ∙ none in cc))

pub returns-in-Run-clause-room : goal.returns-in-Run-clause-room
returns-in-Run-clause-room g c = λ left offs insertions actions h.
    let run = c.args.run.now in
    let o = c.args.outcome.now in
    let k : ℕ = insertions_in c.args.due.from c.args.due.to c.args.due.items.now in
    let a : ℕ = c.args.due.to - c.args.due.from in
    let here = subst (λ (i : Item). HasRoom run o (item_seconds i + left) (off_count i + offs) (k + insertions) (a + actions)) c.in-Run.is h in
    on_ok c.drive.result (λ well some. ok_gives c.drive.result (c.drive.ensures.room left offs insertions actions
    (room-less cuts_from run o (c.in-Run.seconds + left) (c.in-Run.seconds + left) (0 + offs) offs (k + insertions) (k + insertions) (a + actions) (a + actions) (omega arith) (omega arith) (omega arith) (omega arith) here)) well)

-- ---- what is recorded, with its events and rings

pub returns-in-Act-clause-promises : goal.returns-in-Act-clause-promises
returns-in-Act-clause-promises g c = record {
  ringed =
      λ many o done few r time.
      let d : Devices = devices (g.M.Medium.state c.args.unit.now) (g.C.Chip.state c.args.card_a.now) (g.D.Chip.state c.args.card_b.now) in
      let acts : List Action = actions_in (between c.args.due.from c.args.due.to c.args.due.items.now) in
      subst (λ (i : Item). RunRinged o (done ++ seconds_at c.args.run.now.next acts i) c.args.run.now c.args.outcome.now d) (sym c.in-Act.is)
      (subst (λ (ss : List TraceSecond). RunRinged o ss c.args.run.now c.args.outcome.now d) (sym (append-nil done)) r);
  cards =
      λ many o done few r time.
      let d : Devices = devices (g.M.Medium.state c.args.unit.now) (g.C.Chip.state c.args.card_a.now) (g.D.Chip.state c.args.card_b.now) in
      let acts : List Action = actions_in (between c.args.due.from c.args.due.to c.args.due.items.now) in
      subst (λ (i : Item). RunTimely o (done ++ seconds_at c.args.run.now.next acts i) c.args.run.now c.args.outcome.now d) (sym c.in-Act.is)
      (subst (λ (ss : List TraceSecond). RunTimely o ss c.args.run.now c.args.outcome.now d) (sym (append-nil done)) r);
}

pub returns-in-Off-clause-promises : goal.returns-in-Off-clause-promises
returns-in-Off-clause-promises g c = record {
  ringed =
      λ many o done few r time.
      let d : Devices = devices (g.M.Medium.state c.args.unit.now) (g.C.Chip.state c.args.card_a.now) (g.D.Chip.state c.args.card_b.now) in
      let acts : List Action = actions_in (between c.args.due.from c.args.due.to c.args.due.items.now) in
      let out : Outcome = record c.args.outcome.now { breaks = c.off.new.breaks } in
      subst (λ (i : Item). RunRinged o (done ++ seconds_at c.args.run.now.next acts i) c.off.new.self out d) (sym c.in-Off.is)
      (off-ringed o done c.args.run.now c.args.outcome.now d r (λ lit. let h = c.requires.going.lit (ap is_lit lit) in (ungiven_of h.span, h.cabin)) c.in-Off.seconds (subst InRange c.in-Off.is c.requires.item).0 c.off.new.breaks c.off.ensures.breaks c.off.new.self c.off.ensures.run);
  cards =
      λ many o done few t time.
      let d : Devices = devices (g.M.Medium.state c.args.unit.now) (g.C.Chip.state c.args.card_a.now) (g.D.Chip.state c.args.card_b.now) in
      let acts : List Action = actions_in (between c.args.due.from c.args.due.to c.args.due.items.now) in
      let out : Outcome = record c.args.outcome.now { breaks = c.off.new.breaks } in
      subst (λ (i : Item). RunTimely o (done ++ seconds_at c.args.run.now.next acts i) c.off.new.self out d) (sym c.in-Off.is)
      (record {
        carded = off-carded o done c.args.run.now c.args.outcome.now d t.carded c.requires.going.low (λ lit. let h = c.requires.going.lit (ap is_lit lit) in (ungiven_of h.span, h.cabin)) c.in-Off.seconds (subst InRange c.in-Off.is c.requires.item).0 c.off.new.breaks c.off.ensures.breaks c.off.new.self c.off.ensures.run;
        timely = moments-on o done (dark c.in-Off.seconds c.args.run.now.next) c.args.run.now c.args.outcome.now out d d t.carded.ringed.evented.recorded t.timely
            (g.met.M.Medium.coherent c.args.unit.now) (both (λ k. IsCoherent (card_of d k)) (g.met.C.Chip.coherent c.args.card_a.now) (g.met.D.Chip.coherent c.args.card_b.now)) t.carded.ringed.evented.recorded.recorded.recorded.followed.next
            (off-grows (is_lit c.args.run.now.power) c.args.run.now.next c.args.run.now.begun c.args.outcome.now c.off.new.breaks (let low = c.requires.going.low in omega (arith, low)) c.off.ensures.breaks)
            (after-same d) (calm-told d _ (ap (λ (l : Listed Break). l.items) c.off.ensures.breaks) (off-calm _ _ _))
            (broke-behind _ {old = (g.M.Medium.state c.args.unit.now)} {new = (g.M.Medium.state c.args.unit.now)} (ap (λ (l : Listed Break). l.items) c.off.ensures.breaks) (off-uncut _ _ _) (omega arith))
            (near-dark o.from done c.in-Off.seconds c.args.run.now.next);
      });
}

pub returns-in-Run-clause-promises : goal.returns-in-Run-clause-promises
returns-in-Run-clause-promises g c = record {
  ringed =
      λ many o done few r time.
      let acts : List Action = actions_in (between c.args.due.from c.args.due.to c.args.due.items.now) in
      subst (λ (i : Item). HasRunBy RunRinged c.drive.result o (done ++ seconds_at c.args.run.now.next acts i) c.drive.new.run c.drive.new.outcome (devices (g.M.Medium.state c.drive.new.unit) (g.C.Chip.state c.drive.new.card_a) (g.D.Chip.state c.drive.new.card_b))) (sym c.in-Run.is)
      (c.drive.ensures.promises.ringed many (omega (arith, few, many)) o done r time);
  cards =
      λ many o done few r time.
      let acts : List Action = actions_in (between c.args.due.from c.args.due.to c.args.due.items.now) in
      subst (λ (i : Item). HasRunBy RunTimely c.drive.result o (done ++ seconds_at c.args.run.now.next acts i) c.drive.new.run c.drive.new.outcome (devices (g.M.Medium.state c.drive.new.unit) (g.C.Chip.state c.drive.new.card_a) (g.D.Chip.state c.drive.new.card_b))) (sym c.in-Run.is)
      (c.drive.ensures.promises.cards many (omega (arith, few, many)) o done r time);
}

-- ---- its writes

pub returns-in-Act-clause-goes : goal.returns-in-Act-clause-goes
returns-in-Act-clause-goes g c = record {
  later = after-same (devices (g.M.Medium.state c.args.unit.now) (g.C.Chip.state c.args.card_a.now) (g.D.Chip.state c.args.card_b.now));
  calm = calm-same (devices (g.M.Medium.state c.args.unit.now) (g.C.Chip.state c.args.card_a.now) (g.D.Chip.state c.args.card_b.now));
  broke = broke-none c.args.outcome.now.breaks.items {old = (g.M.Medium.state c.args.unit.now)} {new = (g.M.Medium.state c.args.unit.now)} (omega arith);
  most =
      let was : ℕ = powered c.args.run.now c.args.outcome.now in
      between-none (turns_at c.args.run.now.next c.args.due.item) (acts_at (c.args.due.to - c.args.due.from) c.args.due.item) was (off_count c.args.due.item + was) (devices (g.M.Medium.state c.args.unit.now) (g.C.Chip.state c.args.card_a.now) (g.D.Chip.state c.args.card_b.now)) (omega arith);
}

pub returns-in-Off-clause-goes : goal.returns-in-Off-clause-goes
returns-in-Off-clause-goes g c = record {
  later = after-same (devices (g.M.Medium.state c.args.unit.now) (g.C.Chip.state c.args.card_a.now) (g.D.Chip.state c.args.card_b.now));
  calm = calm-told (devices (g.M.Medium.state c.args.unit.now) (g.C.Chip.state c.args.card_a.now) (g.D.Chip.state c.args.card_b.now)) _ (ap (λ (l : Listed Break). l.items) c.off.ensures.breaks) (off-calm _ _ _);
  broke = broke-behind _ {old = (g.M.Medium.state c.args.unit.now)} {new = (g.M.Medium.state c.args.unit.now)} (ap (λ (l : Listed Break). l.items) c.off.ensures.breaks) (off-uncut _ _ _) (omega arith);
  most =
      let one = ap off_count c.in-Off.is in
      let less = off-on c.args.run.now c.off.new.self c.args.outcome.now c.off.new.breaks c.off.ensures.breaks in
      between-none (turns_at c.args.run.now.next c.args.due.item) (acts_at (c.args.due.to - c.args.due.from) c.args.due.item) (powered c.args.run.now c.args.outcome.now) (off_count c.args.due.item + powered c.off.new.self (record c.args.outcome.now { breaks = c.off.new.breaks })) (devices (g.M.Medium.state c.args.unit.now) (g.C.Chip.state c.args.card_a.now) (g.D.Chip.state c.args.card_b.now)) (omega (arith, one, less));
}

pub returns-in-Run-clause-goes : goal.returns-in-Run-clause-goes
returns-in-Run-clause-goes g c = record {
  later = c.drive.ensures.goes.later;
  calm = c.drive.ensures.goes.calm;
  broke = c.drive.ensures.goes.broke;
  most =
      let item = c.args.due.item in
      let waits : ℕ = c.args.due.to - c.args.due.from in
      let next : ℕ = c.args.run.now.next in
      let was : ℕ = powered c.args.run.now c.args.outcome.now in
      let is : ℕ = powered_by c.drive.result c.drive.new.run c.drive.new.outcome in
      let d : Devices = devices (g.M.Medium.state c.args.unit.now) (g.C.Chip.state c.args.card_a.now) (g.D.Chip.state c.args.card_b.now) in
      let e : Devices = devices (g.M.Medium.state c.drive.new.unit) (g.C.Chip.state c.drive.new.card_a) (g.D.Chip.state c.drive.new.card_b) in
      between-more (turns_at next item) (turns_at next item) (acts_at waits item) (acts_at waits item) was was (0 + is) (off_count item + is) d e (omega arith) (omega arith) (omega arith)
      (subst (λ (i : Item). WritesBetween (turns_at next i) (acts_at waits i) was (0 + is) d e) (sym c.in-Run.is) c.drive.ensures.goes.most);
}

pub drive-requires-clause-among : goal.drive-requires-clause-among
drive-requires-clause-among g c = c.requires.among
