use Rattle.std.proofs.lemmas.Grind.{common_steps}
use Rattle.std.proofs.Common.{rules, ◌≡◌, ◌∙◌, inl, inr, ℕ, ◌/◌, ◌<◌, Bool, true, false, Some, List, [], ◌∷◌, ◌++◌, refl, ap, sym, subst, arith, IfSome}
use Rattle.tach_media.specs.Medium.{State, IsCoherent}
use Rattle.log_model.specs.declared.lines.Break.{Break}
use Rattle.unit_minutes.specs.unit_model.Decoding.{first_bad_place}
use Rattle.device_calls.specs.safety_model.Safe.{Devices, breakdowns_of}
use Rattle.run_minutes.specs.run_promise.Between.{devices}
use Rattle.run_outcome.specs.Lines.{Listed, cut_at}
use Rattle.run_outcome.specs.declared.outcome.Outcome.{Outcome}
use Rattle.log_model.specs.Log.{RunLog}
use Rattle.run_acts.specs.run_course.Moments.{and_break}
use Rattle.run_acts.specs.run_record.Powering.{IsNotRead}
use Rattle.run_acts.proofs.run_record.Calls.{not-read}
use Rattle.run_acts.proofs.run_record.Reading.{reading-fails}
use Rattle.run_acts.specs.Power.{is_lit, cut_run, has_power}
use Rattle.run_acts.specs.Recording.{log_of, values_of, RunCut, IsNow, RunRecorded}
use Rattle.run_acts.specs.run_record.Recorded.{progress, RecordBetweenSeconds}
use Rattle.run_acts.proofs.run_note_record.Dark.{power-on_broken}
use Rattle.run_acts.proofs.run_note_record.Seconds.{events-stay}
use Rattle.recorder_with_cards.proofs.ActsEvented.{in-evented_cut}
use Rattle.recorder_with_cards.proofs.WokenEvented.{cut-woken}
use Rattle.log_model.specs.Course.{went}
use Rattle.unit_minutes.specs.unit_model.Image.{odometer_at}
use Rattle.run_acts.specs.run_note_record.RingsSoFar.{RingedBehind}
use Rattle.run_acts.specs.run_note_record.Stored.{Stores, StoresOff}
use Rattle.run_acts.proofs.run_note_record.Bases.{stays-stored}
use Rattle.recorder_with_cards.proofs.StoredCalls.{read-stays}
use Rattle.recorder_with_cards.proofs.WokenStored.{unread-stored}
use Rattle.run_acts.specs.run_note_record.Steps.{spans_cut}
use Rattle.run_acts.proofs.run_note_record.RingsWaking.{behind-stays}
use Rattle.run_acts.specs.RunRinged.{seats_of, with_cut, InSecondRinged, RunRinged}
use Rattle.run_acts.specs.Stood.{LetStand, TellsOn, HaveStood}
use Rattle.run_acts.proofs.Stood.{behind-on, stood-on, unit-makes, unit-rests}
use Rattle.recorder_with_cards.proofs.Resumed.{wholes-of}
use Rattle.recorder_with_cards.proofs.FreshStood.{begins-stood}
use Rattle.recorder_with_cards.proofs.StoodSeconds.{cut-ends}
use Rattle.recorder_with_cards.proofs.WakesStood.{here-tells}
use Rattle.recorder_with_cards.proofs.RingsHere.{here-cut}
use Rattle.run_acts.specs.RunCards.{CardsBehind}
use Rattle.run_acts.specs.Speeds.{SpeedsBehind}
use Rattle.run_acts.proofs.SpeedLogs.{blocks-same}
use Rattle.recorder_with_cards.proofs.EnteredSpeeds.{reading-leaves}
use Rattle.recorder_with_cards.proofs.WokenRinged.{cards-beside, read-leaves, comes-of, unpowered-ringed, cut-ringed}
use Rattle.recorder_with_cards.proofs.CutOff.{cut-as}
use Rattle.recorder_with_cards.proofs.Read.{may-of, rule-known, read-on, left-on, unit-tells, unit-decodes, not-bad, image-of, at-image}
use Rattle.run_acts.specs.declared.run.Run.{Run}
use Rattle.run_acts.specs.Going.{IsAt}
use Rattle.run_acts.proofs.Standing.{cut-at}
use Rattle.tach_media.proofs.Runs.{on_ok, ok_gives}
use Rattle.recorder_with_cards.proofs.WakeNoted.{read-says, read-noted, read-then}
use Rattle.run_minutes.proofs.Later.{state-revived, later-then, later-of-unit}
use Rattle.run_acts.specs.run_note_record.Ringed.{notes_in}
use Rattle.run_acts.proofs.Comings.{leaves-more}
use Rattle.run_acts.specs.Truths.{truths_of, marked}
use Rattle.run_acts.proofs.AllStay.{all-unit}
use Rattle.run_outcome.proofs.Broken.{broke-none, broke-once, broke-then}
use Rattle.recorder_with_cards.proofs.RingsHeld.{ringed-cut}
use Rattle.recorder_with_cards.proofs.CardsHeld.{in-carded_cut}
use Rattle.recorder_with_cards.proofs.WakesCards.{unit-alone, unpowered-cards}
use Rattle.run_minutes.proofs.Calm.{calm-of-unit, calm-then, calm-more}
use Rattle.run_minutes.specs.Later.{AreCalm, AreLater}
use Rattle.run_acts.specs.run_course.Followed.{Comes}
use Rattle.run_acts.specs.Evented.{CutEvented, RunEvented}
use Rattle.run_minutes.specs.run_promise.Beside.{HaveLeftMore}
use Rattle.run_acts.specs.declared.run.Power.TheVariants.{Lit}
use Rattle.device_calls.specs.run_unit_course.Followed.{MayPower}
use Rattle.run_minutes.specs.run_promise.Origin.{Origin}
use Rattle.device_calls.specs.note_model.Odometer.{SpanFrom}
use Rattle.trace_model.specs.Trace.{TraceSecond}
use Rattle.recorder_with_cards.proofs.ActsRecorded.{cut-in}
use Rattle.run_minutes.specs.Keeping.{with_lines}
use Rattle.recorder_with_cards.proofs.resuming.power_on.Given.{Over}
use Rattle.recorder_with_cards.proofs.resuming.power_on.Goals.{After-cut, After-open_unit}
use Rattle.recorder_with_cards.proofs.resuming.power_on.Goals as goal

-- ---- WHAT THE READING LEAVES

module _ (g : Over) (c : After-open_unit g) where
  abbrev run : Run
  run = c.args.run.now

  abbrev out : Outcome
  out = c.args.outcome.now

  abbrev dev0 : Devices
  dev0 = devices (g.M.Medium.state c.args.unit.now) (g.C.Chip.state c.args.card_a.now) (g.D.Chip.state c.args.card_b.now)

  abbrev dev1 : Devices
  dev1 = devices (g.M.Medium.state c.open_unit.new.unit) (g.C.Chip.state c.args.card_a.now) (g.D.Chip.state c.args.card_b.now)

  abbrev whole : IsCoherent (g.M.Medium.state c.args.unit.now)
  whole = g.met.M.Medium.coherent c.args.unit.now

  never-lit : run.power ≡ Lit → ⊥
  never-lit lit = let bad : false ≡ true = sym c.requires.may.dark ∙ ap is_lit lit in cc

  off-now : (o : Origin) (spans : List SpanFrom) → Stores (is_lit run.power) o (log_of out) run.unfound run.keeper.odometer spans dev0 → StoresOff o (log_of out) run.unfound spans dev1
  off-now o spans stored =
      stays-stored o (log_of out) run.unfound spans dev0 dev1 (read-stays dev0 dev1 whole c.open_unit.ensures.revived.leaves) (subst (λ (b : Bool). Stores b o (log_of out) run.unfound run.keeper.odometer spans dev0) c.requires.may.dark stored)

  behind : (o : Origin) (done : List TraceSecond) (all : RunRinged o done run out dev0) → HaveLeftMore o dev0 dev1 → RingedBehind o done (log_of out) run.next all.spans (seats_of run) dev1
  behind o done all left =
      behind-stays dev0 dev1 o done (log_of out) run.next all.spans (seats_of run) all.ringed (read-leaves (g.M.Medium.state c.args.unit.now) (g.M.Medium.state c.open_unit.new.unit) whole c.open_unit.ensures.revived.leaves) left
      (cards-beside o all.spans (g.M.Medium.state c.args.unit.now) (g.M.Medium.state c.open_unit.new.unit) (g.C.Chip.state c.args.card_a.now) (g.D.Chip.state c.args.card_b.now))

  shown : (o : Origin) (done : List TraceSecond) → CardsBehind o done (log_of out) dev0 → CardsBehind o done (log_of out) dev1
  shown o done = unit-alone o done (log_of out) (g.M.Medium.state c.args.unit.now) (g.M.Medium.state c.open_unit.new.unit) (g.C.Chip.state c.args.card_a.now) (g.D.Chip.state c.args.card_b.now)

  -- the detailed speed stays
  speeds : (o : Origin) (done : List TraceSecond) → SpeedsBehind o done run out dev0 → SpeedsBehind o done run out dev1
  speeds o done h = record {
    watched = λ lit. absurd (never-lit lit);
    blocks = blocks-same o (log_of out) (log_of out) (λ u has. has) done done dev0 dev1 refl (reading-leaves (g.M.Medium.state c.args.unit.now) (g.M.Medium.state c.open_unit.new.unit) whole c.open_unit.ensures.revived.leaves) h.blocks;
  }

  later : AreLater dev0 dev1
  later =
      let same = c.open_unit.ensures.revived.clock in
      later-of-unit (g.M.Medium.state c.args.unit.now) (g.M.Medium.state c.open_unit.new.unit) (g.C.Chip.state c.args.card_a.now) (g.D.Chip.state c.args.card_b.now) (state-revived (g.M.Medium.state c.args.unit.now) (g.M.Medium.state c.open_unit.new.unit) _ (omega (arith, same)) c.open_unit.ensures.revived.cause)
      (reading-leaves (g.M.Medium.state c.args.unit.now) (g.M.Medium.state c.open_unit.new.unit) whole c.open_unit.ensures.revived.leaves)

  calm : AreCalm out.breaks.items out.breaks.items dev0 dev1
  calm = calm-of-unit (g.M.Medium.state c.args.unit.now) (g.M.Medium.state c.open_unit.new.unit) (g.C.Chip.state c.args.card_a.now) (g.D.Chip.state c.args.card_b.now)

  -- power comes, behind what is recorded
  module _ (o : Origin) (done : List TraceSecond) (has : has_power run.power run.next ≡ true) where
    may : (rec : RunRecorded o done run out dev0) → MayPower rec.supply run.next
    may rec = may-of run.power rec.supply run.next rec.powers c.requires.may.dark has

    read : (rec : RunRecorded o done run out dev0) → RecordBetweenSeconds o done rec.supply (values_of run out) dev1
    read rec = read-on o done rec.supply (values_of run out) dev0 rec.recorded (may rec) (g.M.Medium.state c.open_unit.new.unit) whole c.open_unit.ensures.revived.leaves c.open_unit.ensures.revived.cause.breakdowns

    left : RunRecorded o done run out dev0 → HaveLeftMore o dev0 dev1
    left rec = left-on o done rec.supply (values_of run out) dev0 rec.recorded (may rec) (g.M.Medium.state c.open_unit.new.unit) whole c.open_unit.ensures.revived.leaves c.open_unit.ensures.revived.cause.breakdowns

    -- what stood on the cards stands
    stands : RunRecorded o done run out dev0 → LetStand o dev0 dev1
    stands rec = record { left = left rec; made = unit-makes o (g.M.Medium.state c.args.unit.now) (g.M.Medium.state c.open_unit.new.unit) (g.C.Chip.state c.args.card_a.now) (g.D.Chip.state c.args.card_b.now) }

    -- it stays so behind the reading
    abbrev recorded : RunRecorded o done run out dev0 → RunRecorded o done run out dev1
    recorded rec = record {
      origin = rec.origin;
      vehicle = rec.vehicle;
      supply = rec.supply;
      powers = rec.powers;
      recorded = read rec;
      odometer = λ lit. absurd (never-lit lit);
      stay = all-unit o (marked out.marks.items (truths_of o (log_of out) done)) 0 (log_of out) (notes_in (log_of out) done) run.keeper.memory.registration run.keeper.cabin (g.M.Medium.state c.args.unit.now) (g.M.Medium.state c.open_unit.new.unit) (g.C.Chip.state c.args.card_a.now) (g.D.Chip.state c.args.card_b.now)
          (leaves-more (g.M.Medium.state c.args.unit.now) (g.M.Medium.state c.open_unit.new.unit) (read-leaves (g.M.Medium.state c.args.unit.now) (g.M.Medium.state c.open_unit.new.unit) whole c.open_unit.ensures.revived.leaves)) rec.stay;
    }

    abbrev evented : RunEvented o done run out dev0 → RunEvented o done run out dev1
    evented all = record {
      recorded = recorded all.recorded;
      evented = events-stay dev0 dev1 o done (log_of out) run.unfound run.next all.recorded.supply all.evented (read-says (g.M.Medium.state c.args.unit.now) (g.M.Medium.state c.open_unit.new.unit) c.open_unit.ensures.revived.leaves) (left all.recorded);
      limit = all.limit;
      watched = λ lit. absurd (never-lit lit);
    }

    abbrev ringed : RunRinged o done run out dev0 → RunRinged o done run out dev1
    ringed all = record {
      evented = evented all.evented;
      spans = all.spans;
      base = λ lit. absurd (never-lit lit);
      counted = all.counted;
      ringed = behind o done all (left all.evented.recorded);
      stored = subst (λ (b : Bool). Stores b o (log_of out) run.unfound run.keeper.odometer all.spans dev1) (sym c.requires.may.dark) (off-now o all.spans all.stored);
    }

    -- no place of such a unit is bad
    never-bad : RunRecorded o done run out dev0 → (place : ℕ) → IfSome (g.M.Medium.state c.open_unit.new.unit).image (λ x. first_bad_place x ≡ Some place) → ⊥
    never-bad rec place bad =
        let V : State = g.M.Medium.state c.open_unit.new.unit in
        let after = g.met.M.Medium.coherent c.open_unit.new.unit in
        let image = image-of V.image (unit-tells o done rec.supply (values_of run out) dev1 (read rec) (may rec)) in
        let decodes = unit-decodes o done rec.supply (values_of run out) dev1 (read rec) (may rec) after image.0 (after.is_left image.0 image.1) in
        not-bad image.0 place decodes (at-image (λ (x : List ℕ). first_bad_place x ≡ Some place) V.image image.0 image.1 bad)

-- ---- where it failed, and power is lost

module _ (g : Over) (c : After-cut g) where
  abbrev reading : After-open_unit g
  reading = (goal.at.returns-in-Err-Failed-clause-promises g c).After-open_unit

  abbrev lost : Outcome
  lost = record c.args.outcome.now { breaks = c.cut.new.breaks }

  line : lost ≡ record c.args.outcome.now { breaks = with_lines (cut_at c.args.run.now.next true 0 ∷ []) c.args.outcome.now.breaks }
  line = ap (λ (l : Listed Break). record c.args.outcome.now { breaks = l }) c.cut.ensures.breaks

  module _ (o : Origin) (done : List TraceSecond) (s : TraceSecond) (now : IsNow s c.args.speed (run g reading)) (has : has_power (run g reading).power (run g reading).next ≡ true) where
    unread : (rec : RunRecorded o done (run g reading) (out g reading) (dev0 g reading)) → IsNotRead o done rec.supply (values_of (run g reading) (out g reading)) (dev0 g reading) rec.recorded (dev1 g reading)
    unread rec =
        let cause = rw c.in-Err-Failed.field-0-is at c.in-Err-Failed.ensures.revived.cause in
        not-read o done rec.supply (values_of (run g reading) (out g reading)) (dev0 g reading) rec.recorded (may g reading o done has rec) (g.M.Medium.state c.open_unit.new.unit) (whole g reading) c.open_unit.ensures.revived.leaves cause

    recorded_cut : RunRecorded o done (run g reading) (out g reading) (dev0 g reading) → RunCut o done s c.cut.new.self lost (dev1 g reading)
    recorded_cut rec =
        let failed = reading-fails (dev0 g reading) (dev1 g reading) o done s rec.supply (values_of (run g reading) (out g reading)) rec.recorded (may g reading o done has rec) now.number now.given (unread rec) in
        subst (λ (r : Run). RunCut o done s r lost (dev1 g reading)) (sym c.cut.ensures.run)
        (subst (λ (l : Listed Break). RunCut o done s (cut_run (run g reading).next (run g reading)) (record (out g reading) { breaks = l }) (dev1 g reading)) (sym c.cut.ensures.breaks) (cut-as (dev1 g reading) o done s 0 (run g reading) (out g reading) rec.origin rec.vehicle now.number failed))

    evented_cut : RunEvented o done (run g reading) (out g reading) (dev0 g reading) → CutEvented o done s c.cut.new.self lost (dev1 g reading)
    evented_cut all =
        let rec = all.recorded in
        let none = unread rec in
        let broken = power-on_broken (dev0 g reading) (dev1 g reading) o done (progress (values_of (run g reading) (out g reading)) rec.supply rec.recorded.book) rec.recorded.recorded.followed all.evented (may g reading o done has rec) s now.number now.given
        (breakdowns_of (dev0 g reading)) (breakdowns_of (dev1 g reading)) none.goes.breakdowns none.broke (read-says (g.M.Medium.state c.args.unit.now) (g.M.Medium.state c.open_unit.new.unit) c.open_unit.ensures.revived.leaves) none.goes.left in
        cut-woken o done s (run g reading) c.cut.new.self (out g reading) lost (dev1 g reading) (log_of (out g reading)) (broken, all.limit) (recorded_cut rec) c.cut.ensures.run line now.number

    comes : (rec : RunRecorded o done (run g reading) (out g reading) (dev0 g reading)) → Comes (went (log_of (out g reading)) done).before (run g reading).next
    comes rec = comes-of rec.supply (went (log_of (out g reading)) done).before (run g reading).next (may g reading o done has rec) rec.recorded.recorded.followed.power

    ringed_cut : RunRinged o done (run g reading) (out g reading) (dev0 g reading) → InSecondRinged o done s 0 c.cut.new.self lost (dev1 g reading)
    ringed_cut all =
        let rec = all.evented.recorded in
        let progressed = progress (values_of (run g reading) (out g reading)) rec.supply rec.recorded.book in
        let image = image-of (g.M.Medium.state c.open_unit.new.unit).image (c.open_unit.ensures.revived.leaves.tells ∙ unit-tells o done rec.supply (values_of (run g reading) (out g reading)) (dev0 g reading) rec.recorded (may g reading o done has rec)) in
        let base : ℕ = odometer_at image.0 in
        let stored = unread-stored o done s progressed rec.recorded.recorded.followed (comes rec) now.number now.given all.spans (dev1 g reading) image.0 ((g.met.M.Medium.coherent c.open_unit.new.unit).is_left image.0 image.1) (off-now g reading o all.spans all.stored) in
        let rung = unpowered-ringed o done s progressed rec.recorded.recorded.followed (comes rec) now.number now.given (dev1 g reading) all.spans (seats_of (run g reading))
        (subst (λ (m : ℕ). RingedBehind o done (log_of (out g reading)) m all.spans (seats_of (run g reading)) (dev1 g reading)) (sym now.number) (behind g reading o done all (unread rec).goes.left)) base in
        cut-ringed o done s (run g reading) c.cut.new.self (out g reading) lost (dev1 g reading) (log_of (out g reading)) all.spans (spans_cut all.spans base (with_cut (log_of (out g reading)) s []) done s, all.counted, rung, stored)
        (evented_cut all.evented) c.cut.ensures.run line now.number 0

-- ---- the unit failed as it was read

pub returns-in-Err-Failed-clause-going : goal.returns-in-Err-Failed-clause-going
returns-in-Err-Failed-clause-going g c =
    let old : Run = c.args.run.now in
    let h = c.requires.going.held in
    subst (λ (r : Run). IsAt (r.next / 60) r (g.M.Medium.state c.open_unit.new.unit) (g.C.Chip.card c.args.card_a.now) (g.D.Chip.card c.args.card_b.now) (g.C.Chip.state c.args.card_a.now) (g.D.Chip.state c.args.card_b.now)) (sym c.cut.ensures.run)
    (cut-at old (old.next / 60) (old.next / 60) old.next c.requires.going.low c.requires.going.small
    (record { is_unit = c.open_unit.ensures.unit h.is_unit; odometer = h.odometer; minute = h.minute; card_a = h.card_a; card_b = h.card_b; stand = h.stand }) h.minute (omega arith))

-- ---- BY THE UNIT'S RULE

pub found-requires-clause-told : goal.found-requires-clause-told
found-requires-clause-told g c = record {
  loaded = first_of (search rules, grind (arith, common_steps));
  rule = rule-known (g.M.Medium.state c.open_unit.new.unit).image c.in-Ok.opened.memory c.rule-rule.result c.in-Ok.ensures.facts c.rule-rule.ensures;
}

-- ---- what is noted

pub returns-in-Ok-clause-noted : goal.returns-in-Ok-clause-noted
returns-in-Ok-clause-noted g c = on_ok c.found.result (λ well.
    let at = (goal.at.returns-in-Ok-clause-noted g c).After-open_unit in
    let dev2 : Devices = devices (g.M.Medium.state c.found.new.unit) (g.C.Chip.state c.found.new.card_a) (g.D.Chip.state c.found.new.card_b) in
    let quiet = read-noted (g.M.Medium.state c.args.unit.now) (g.M.Medium.state c.open_unit.new.unit) (g.C.Chip.state c.args.card_a.now) (g.D.Chip.state c.args.card_b.now) c.open_unit.ensures.revived.leaves false in
    inl (c.in-Ok.opened.journal.kept, read-then c.in-Ok.opened.journal.kept c.args.speed c.args.run.now c.found.new.run c.args.outcome.now c.found.new.outcome (dev0 g at) (dev1 g at) dev2 quiet (ok_gives c.found.result c.found.ensures.noted well)))

pub returns-in-Err-Failed-clause-noted : goal.returns-in-Err-Failed-clause-noted
returns-in-Err-Failed-clause-noted g c = inr (record {
  ends = (c.cut.ensures.run, line g c);
  notes = read-noted (g.M.Medium.state c.args.unit.now) (g.M.Medium.state c.open_unit.new.unit) (g.C.Chip.state c.args.card_a.now) (g.D.Chip.state c.args.card_b.now) c.open_unit.ensures.revived.leaves true;
})

-- ---- where no tear of a failed call is told no card has broken down

pub returns-in-Ok-clause-woken : goal.returns-in-Ok-clause-woken
returns-in-Ok-clause-woken g c = record {
  late = c.found.ensures.woken.late;
  next = c.found.ensures.woken.next;
  awake = c.found.ensures.woken.awake;
  unfound = c.found.ensures.woken.unfound;
  refused = c.found.ensures.woken.refused;
}

pub returns-in-Ok-clause-promises : goal.returns-in-Ok-clause-promises
returns-in-Ok-clause-promises g c = λ room. record {
  recorded = λ o done s now rec has time. (c.found.ensures.promises room).recorded o done s now (recorded g (goal.at.returns-in-Ok-clause-promises g c).After-open_unit o done has rec) has time;
  evented = λ o done s now all has time. (c.found.ensures.promises room).evented o done s now (evented g (goal.at.returns-in-Ok-clause-promises g c).After-open_unit o done has all) has time;
  ringed = λ o done s now all has time. (c.found.ensures.promises room).ringed o done s now (ringed g (goal.at.returns-in-Ok-clause-promises g c).After-open_unit o done has all) has time;
  cards =
      λ o done s now all has time.
      let at = (goal.at.returns-in-Ok-clause-promises g c).After-open_unit in
      (c.found.ensures.promises room).cards o done s now (record { ringed = ringed g at o done has all.ringed; vehicle = all.vehicle; cards = shown g at o done all.cards; past = behind-on o done (log_of (out g at)) (dev0 g at) (dev1 g at) all.past (stands g at o done has all.ringed.evented.recorded) (unit-rests o (log_of (out g at)) (g.M.Medium.state c.args.unit.now) (g.M.Medium.state c.open_unit.new.unit) (g.C.Chip.state c.args.card_a.now) (g.D.Chip.state c.args.card_b.now)); speeds = speeds g at o done all.speeds }) has time;
}

pub returns-in-Ok-clause-goes : goal.returns-in-Ok-clause-goes
returns-in-Ok-clause-goes g c = record {
  later =
      let at = (goal.at.returns-in-Ok-clause-goes g c).After-open_unit in
      later-then (dev0 g at) (dev1 g at) (devices (g.M.Medium.state c.found.new.unit) (g.C.Chip.state c.found.new.card_a) (g.D.Chip.state c.found.new.card_b)) (later g at) c.found.ensures.goes.later;
  calm =
      let at = (goal.at.returns-in-Ok-clause-goes g c).After-open_unit in
      calm-then (dev0 g at) (dev1 g at) (devices (g.M.Medium.state c.found.new.unit) (g.C.Chip.state c.found.new.card_a) (g.D.Chip.state c.found.new.card_b)) (calm g at) c.found.ensures.goes.calm;
  broke = broke-then (broke-none c.args.outcome.now.breaks.items {old = (g.M.Medium.state c.args.unit.now)} {new = (g.M.Medium.state c.open_unit.new.unit)} (c.in-Ok.ensures.revived.cause.unbroken refl)) c.found.ensures.goes.broke;
  most =
      let same = c.open_unit.ensures.revived.clock in
      let last = c.found.ensures.goes.most in
      record { unit = (let a = last.unit in omega (arith, same, a)); card_a = last.card_a; card_b = last.card_b };
}

pub returns-in-Err-BadUnit-clause-woken : goal.returns-in-Err-BadUnit-clause-woken
returns-in-Err-BadUnit-clause-woken g c = record {
  late = tt;
  next = refl;
  awake = tt;
  unfound = tt;
  refused = refl;
}

pub returns-in-Err-BadUnit-clause-promises : goal.returns-in-Err-BadUnit-clause-promises
returns-in-Err-BadUnit-clause-promises g c = λ room. record {
  recorded =
      λ o done s now rec has time.
      absurd (never-bad g (goal.at.returns-in-Err-BadUnit-clause-promises g c).After-open_unit o done has rec c.in-Err-BadUnit.place (rw c.in-Err-BadUnit.field-0-is at c.in-Err-BadUnit.ensures.bad));
  evented = λ o done s now all has time. absurd (never-bad g (goal.at.returns-in-Err-BadUnit-clause-promises g c).After-open_unit o done has all.recorded c.in-Err-BadUnit.place (rw c.in-Err-BadUnit.field-0-is at c.in-Err-BadUnit.ensures.bad));
  ringed = λ o done s now all has time. absurd (never-bad g (goal.at.returns-in-Err-BadUnit-clause-promises g c).After-open_unit o done has all.evented.recorded c.in-Err-BadUnit.place (rw c.in-Err-BadUnit.field-0-is at c.in-Err-BadUnit.ensures.bad));
  cards = λ o done s now all has time. absurd (never-bad g (goal.at.returns-in-Err-BadUnit-clause-promises g c).After-open_unit o done has all.ringed.evented.recorded c.in-Err-BadUnit.place (rw c.in-Err-BadUnit.field-0-is at c.in-Err-BadUnit.ensures.bad));
}

pub returns-in-Err-BadUnit-clause-goes : goal.returns-in-Err-BadUnit-clause-goes
returns-in-Err-BadUnit-clause-goes g c = record {
  later = later g (goal.at.returns-in-Err-BadUnit-clause-goes g c).After-open_unit;
  calm = calm g (goal.at.returns-in-Err-BadUnit-clause-goes g c).After-open_unit;
  broke =
      let cause = rw c.in-Err-BadUnit.field-0-is at c.in-Err-BadUnit.ensures.revived.cause in
      broke-none c.args.outcome.now.breaks.items {old = (g.M.Medium.state c.args.unit.now)} {new = (g.M.Medium.state c.open_unit.new.unit)} (cause.unbroken refl);
  most = let same = c.open_unit.ensures.revived.clock in record { unit = omega (arith, same); card_a = omega arith; card_b = omega arith };
}

pub returns-in-Err-Failed-clause-woken : goal.returns-in-Err-Failed-clause-woken
returns-in-Err-Failed-clause-woken g c = record {
  late = tt;
  next = ap (λ (r : Run). r.next) c.cut.ensures.run;
  awake = inr (ap (λ (r : Run). r.power) c.cut.ensures.run);
  unfound = first_of (search rules, grind (arith, common_steps));
  refused = refl;
}

pub returns-in-Err-Failed-clause-promises : goal.returns-in-Err-Failed-clause-promises
returns-in-Err-Failed-clause-promises g c = λ room. record {
  recorded = λ o done s now rec has time. cut-in o done s c.cut.new.self (lost g c) (dev1 g (reading g c)) 0 (recorded_cut g c o done s now has rec);
  evented = λ o done s now all has time. in-evented_cut o done s c.cut.new.self (lost g c) (dev1 g (reading g c)) 0 (evented_cut g c o done s now has all);
  ringed = λ o done s now all has time. ringed_cut g c o done s now has all;
  cards =
      λ o done s now all has time.
      let at = reading g c in
      let rec = all.ringed.evented.recorded in
      let low = c.requires.going.low in
      let number = now.number in
      let positive : 0 < s.number = omega (arith, low, number) in
      let cut_shown = unpowered-cards o done s (progress (values_of (run g at) (out g at)) rec.supply rec.recorded.book) rec.recorded.recorded.followed (comes g c o done s now has rec) now.number now.given positive (dev1 g at) (shown g at o done all.cards) in
      let is_log : with_cut (log_of (out g at)) s [] ≡ log_of (lost g c) = ap (λ (u : ℕ). and_break (log_of (out g at)) (cut_at u true 0)) now.number ∙ sym (ap log_of (line g c)) in
      let rung_ = ringed-cut o done s c.cut.new.self (lost g c) (dev1 g at) 0 (ap (λ (q : Run). is_lit q.power) c.cut.ensures.run) (ringed_cut g c o done s now has all.ringed) in
      let f = rec.recorded.recorded.followed in
      let fresh : HaveStood o done (log_of (out g at)) (dev0 g at) = begins-stood o done (run g at) (out g at) (dev0 g at) all.ringed (λ lit. absurd (never-lit g at lit))
      (wholes-of (g.M.Medium.state c.args.unit.now) (g.C.Chip.state c.args.card_a.now) (g.D.Chip.state c.args.card_b.now) (g.met.C.Chip.coherent c.args.card_a.now) (g.met.D.Chip.coherent c.args.card_b.now)) all.past in
      in-carded_cut o done s c.cut.new.self (lost g c) (dev1 g at) 0 (record {
        ringed = rung_;
        vehicle = ap (λ (q : Run). q.keeper.memory.registration) c.cut.ensures.run ∙ all.vehicle;
        cards = subst (λ (l : RunLog). CardsBehind o (done ++ s ∷ []) l (dev1 g at)) is_log cut_shown;
        past = cut-ends o done s (log_of (out g at)) c.cut.new.self (lost g c) (dev1 g at) rung_.evented.cut (now.number ∙ sym (ap (λ (q : Run). q.next) c.cut.ensures.run))
            (subst (λ (l : RunLog). TellsOn (log_of (out g at)) l done) is_log
            (here-tells done o.from (log_of (out g at)) (with_cut (log_of (out g at)) s []) s.number f.order (let next_ = f.next in omega (arith, number, next_)) (here-cut (log_of (out g at)) s [])))
            (stood-on o done (log_of (out g at)) (dev0 g at) (dev1 g at) fresh (stands g at o done has rec));
      });
}

pub returns-in-Err-Failed-clause-goes : goal.returns-in-Err-Failed-clause-goes
returns-in-Err-Failed-clause-goes g c = record {
  later = later g (reading g c);
  calm = calm-more (dev0 g (reading g c)) (dev1 g (reading g c)) _ (calm g (reading g c)) (ap (λ (l : Listed Break). l.items) c.cut.ensures.breaks) refl;
  broke =
      let rose = rw c.in-Err-Failed.field-0-is at c.in-Err-Failed.ensures.broke in
      broke-once _ _ (ap (λ (l : Listed Break). l.items) c.cut.ensures.breaks) rose c.open_unit.ensures.revived.cause.once;
  most = let same = c.open_unit.ensures.revived.clock in record { unit = omega (arith, same); card_a = omega arith; card_b = omega arith };
}

pub found-requires-clause-may : goal.found-requires-clause-may
found-requires-clause-may g c = c.requires.may
